-- The output of printing a text.
use Rattle.std.proofs.Common.{ℕ, ◌⊎◌, inl, inr, List, Result, Ok, Err}
use Rattle.nr_text.specs.Streams.{Outgoing, WritesAll, WritesPrefix}
use Rattle.nr_text.specs.Auxiliary.Streams.{Prints}
use Rattle.nr_text.specs.declared.sink.Part.{Part}

-- printing writes the whole text, or a prefix of it if a write failed
pub prints_whole_or_part : (old new : Outgoing) (text : List ℕ) (printed : Result Unit Part) → Prints old new text printed → WritesAll old new text ⊎ ((count : ℕ) × WritesPrefix old new text count)
prints_whole_or_part old new text (Ok _) went = inl went
prints_whole_or_part old new text (Err part) went = inr (part.0, went)
