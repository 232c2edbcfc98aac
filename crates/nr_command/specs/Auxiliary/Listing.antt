-- Helper definitions for `Listing`. The laws in THEOREM.md don't use them.
use Rattle.std.specs.Prelude.{ℕ, List, ◌++◌, flat_map, codes, decimal}
use Rattle.nr_marks.specs.declared.mark.Mark.TheVariants as marks
use Rattle.nr_command.specs.declared.listing.Listing.{Listing}
use Rattle.nr_command.specs.declared.listing.Listing.TheVariants.{Heading, Marks, Checkpoints}
use Rattle.nr_command.specs.Listing.{checkpoint_line, mark_line}

-- the text of a part of a list
abbrev pub listing_text : Listing → List ℕ
listing_text (Heading name count) = name.now ++ decimal count ++ codes "\n"
listing_text (Marks marks) = flat_map mark_line marks.now
listing_text (Checkpoints checkpoints) = flat_map checkpoint_line checkpoints.now
