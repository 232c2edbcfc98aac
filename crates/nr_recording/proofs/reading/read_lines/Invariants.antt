use Rattle.std.proofs.Common.{◌≡◌, suc, ◌+◌, true, length, option_map}
use Rattle.std.specs.List.{list_any}
use Rattle.nr_recording.specs.Reading.{nothing, lines, with_lines}
use Rattle.nr_recording.specs.Auxiliary.Reading.{line_takes_memory, lines_behind, text_takes_memory}
use Rattle.nr_recording.proofs.reading.read_lines.Given as goal

-- the lines read so far and the remaining lines together are all lines
abbrev pub invariant-loop-left : goal.invariant-loop-left
invariant-loop-left l = record {
  counted : l.number + length (lines_behind (option_map (λ text. text.now) l.left)) ≡ length (lines l.bytes);
  so_far : with_lines (suc l.number) l.reader (lines_behind (option_map (λ text. text.now) l.left)) ≡ with_lines 1 nothing (lines l.bytes);
  memory : list_any line_takes_memory (lines_behind (option_map (λ text. text.now) l.left)) ≡ true → text_takes_memory l.bytes ≡ true;
}

abbrev pub decreases-loop-left : goal.decreases-loop-left
decreases-loop-left l = length (lines_behind (option_map (λ text. text.now) l.left))
