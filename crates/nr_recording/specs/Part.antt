-- The JSON of a line's parts, and the parts that haven't been read yet.
use Rattle.std.specs.Prelude.{List, map}
use Rattle.std.specs.Slice.Iter.{iter_rest}
use Rattle.serde_json.specs.Data.{Data, number, unsigned, string, array, Items, no_items, item}
use Rattle.serde_json.specs.View.{view, items_of, items_view}
use Rattle.nr_recording.specs.declared.part.Part.{Part}
use Rattle.nr_recording.specs.declared.part.Part.TheVariants.{Text, Number, Pair, Value}
use Rattle.nr_recording.specs.declared.part.Parts.{Parts}
use Rattle.nr_recording.specs.declared.part.Parts.TheVariants.{Values, Plain}

-- the JSON of a part
abbrev pub part_data : Part → Data
part_data (Text text) = string text.now
part_data (Number n) = number (unsigned n)
part_data (Pair text n) = array (item (string text.now) (item (number (unsigned n)) no_items))
part_data (Value value) = view value.now

-- the JSON of several parts
abbrev pub parts_data : List Part → Items
parts_data parts = items_of (map part_data parts)

-- the parts of a line that haven't been read yet
abbrev pub rest_of : Parts → Items
rest_of (Values values) = items_view (iter_rest values)
rest_of (Plain parts) = parts_data (iter_rest parts)

-- the values of an array, or none if the value isn't an array
abbrev pub elements : Data → Items
elements (array ds) = ds
elements _ = no_items
