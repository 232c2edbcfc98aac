use Rattle.std.proofs.Common.{◌≡◌, ℕ, suc, ◌+◌, ◌==◌, [], true, List, length, Option, option_map, sym, ap, subst, arith, ◌∙◌}
use Rattle.std.proofs.lemmas.List.Splits.{length-slice_split}
use Rattle.std.proofs.lemmas.List.Sums.{count_by-le-length}
use Rattle.std.specs.Borrow.{Bor}
use Rattle.std.proofs.lemmas.Bool.{or_right}
use Rattle.std.specs.List.{list_any}
use Rattle.nr_recording.specs.Reading.{lines, nothing, with_lines}
use Rattle.nr_recording.specs.Auxiliary.Reading.{line_takes_memory, lines_behind}
use Rattle.nr_recording.proofs.ReadLoopLemmas.{ends, goes_on, itself, stops}
use Rattle.nr_recording.proofs.reading.read_lines.Goals as goal

pub overflow_add-number : goal.overflow_add-number
overflow_add-number c =
    let few = count_by-le-length (λ (b : ℕ). b == 10) c.args.bytes.now in
    let all = length-slice_split (λ (b : ℕ). b == 10) c.args.bytes.now in
    let counted = c.loop-left.invariant.counted in
    let known = c.well_formed in
    let some = ap length c.first_line.ensures in
    let left : length (lines_behind (option_map (λ (text : Bor (List ℕ)). text.now) c.loop-left.left)) ≡ length (lines c.in-Some.text.now) = ap (λ (l : Option (Bor (List ℕ))). length (lines_behind (option_map (λ text. text.now) l))) c.in-Some.is in
    omega arith

-- the remaining lines begin with the line just read
pub returns-in-Err-clause-exact : goal.returns-in-Err-clause-exact
returns-in-Err-clause-exact c =
    let number = c.loop-left.number in
    let are = ap (λ (l : Option (Bor (List ℕ))). lines_behind (option_map (λ text. text.now) l)) c.in-Some.is ∙ c.first_line.ensures in
    let so_far = subst (λ xs. with_lines (suc number) c.loop-left.reader xs ≡ with_lines 1 nothing (lines c.args.bytes.now)) are c.loop-left.invariant.so_far in
    let after : suc number ≡ number + 1 = omega arith in
    rw (c.at.ensures, ← after) (stops c.in-Err.e c.args.bytes.now _ _ _ number c.in-Err.ensures.seen so_far)

pub loop-left-preserved : goal.loop-left-preserved
loop-left-preserved c =
    let number = c.loop-left.number in
    let are = ap (λ (l : Option (Bor (List ℕ))). lines_behind (option_map (λ text. text.now) l)) c.in-Some.is ∙ c.first_line.ensures in
    let so_far = subst (λ xs. with_lines (suc number) c.loop-left.reader xs ≡ with_lines 1 nothing (lines c.args.bytes.now)) are c.loop-left.invariant.so_far in
    let counted = c.loop-left.invariant.counted in
    let one_more = ap length are in
    record {
      counted = omega (arith, counted, one_more);
      so_far = goes_on _ _ _ _ number _ c.in_default-line.ensures.seen so_far;
      memory = λ later. c.loop-left.invariant.memory (subst (λ xs. list_any line_takes_memory xs ≡ true) (sym are) (or_right (line_takes_memory c.first_line.result.0.now) _ later));
    }

pub returns-clause-exact : goal.returns-clause-exact
returns-clause-exact c =
    let are : lines_behind (option_map (λ (text : Bor (List ℕ)). text.now) c.loop-left.left) ≡ [] = ap (λ (l : Option (Bor (List ℕ))). lines_behind (option_map (λ text. text.now) l)) c.in_default.is in
    let so_far = subst (λ xs. with_lines (suc c.loop-left.number) c.loop-left.reader xs ≡ with_lines 1 nothing (lines c.args.bytes.now)) are c.loop-left.invariant.so_far in
    let counted = c.loop-left.invariant.counted in
    let none = ap length are in
    rw (ends c.args.bytes.now _ c.loop-left.number (omega (arith, counted, none)) so_far) (itself _ _ c.finish.ensures)
