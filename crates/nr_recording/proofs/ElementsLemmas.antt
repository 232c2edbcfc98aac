-- A step depends only on the elements of its JSON value. A value that isn't an array has no
-- elements.
use Rattle.std.proofs.Common.{◌≡◌, Option, Some, refl}
use Rattle.serde_json.specs.Data.{Data, null, boolean, number, string, array, object}
use Rattle.nr_recording.specs.declared.reading.Header.{Header}
use Rattle.nr_recording.specs.Part.{elements}
use Rattle.nr_recording.specs.Reading.{Seen, with_value}
use Rattle.nr_recording.specs.Auxiliary.Reading.{value_takes_memory}
use Rattle.nr_recording.specs.Steps.{step_of}
use Rattle.nr_recording.specs.Auxiliary.Steps.{step_takes_memory}

seen_of : (seen : Seen) (header : Header) (d : Data) → with_value seen (Some header) (array (elements d)) ≡ with_value seen (Some header) d
unfolding step_of
seen_of seen header null = refl
seen_of seen header (boolean b) = refl
seen_of seen header (number n) = refl
seen_of seen header (string s) = refl
seen_of seen header (array ds) = refl
seen_of seen header (object ms) = refl

memory_of : (seen : Seen) (header : Header) (d : Data) → value_takes_memory seen (Some header) (array (elements d)) ≡ value_takes_memory seen (Some header) d
unfolding step_of step_takes_memory
memory_of seen header null = refl
memory_of seen header (boolean b) = refl
memory_of seen header (number n) = refl
memory_of seen header (string s) = refl
memory_of seen header (array ds) = refl
memory_of seen header (object ms) = refl

module _ (seen : Seen) (h : Option Header) (header : Header) (d : Data) (begun : h ≡ Some header) where
  pub seen_by_elements : with_value seen h (array (elements d)) ≡ with_value seen h d
  seen_by_elements = rw begun (seen_of seen header d)

  pub memory_by_elements : value_takes_memory seen h (array (elements d)) ≡ value_takes_memory seen h d
  memory_by_elements = rw begun (memory_of seen header d)
