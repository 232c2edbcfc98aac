-- At a position at which no mark can hit, no mark hits and the watched values don't change.
use Rattle.std.proofs.Common.{◌≡◌, ℕ, ◌+◌, Bool, true, false, not, ◌||◌, cond, inl, inr, ◌<◌, ◌≤◌, length, set, get_or, arith, List, [], ◌∷◌, filter, map, slice_get, Option, Some, None, Ok, Err, refl, sym, ap, ◌∙◌, zero, suc}
use Rattle.std.specs.Option.{option_and_then}
use Rattle.nr_rev.specs.Cell.{cell, same_value}
use Rattle.std.proofs.lemmas.Option.{get_or_from_slice_get, slice_get-get_or}
use Rattle.nr_rev.specs.Kind.{kind_number, kind_numbered, kind_of}
use Rattle.nr_rev.proofs.ListUpdateLemmas.{slice_get-set_cases}
use Rattle.nr_rev.proofs.NameLookupLemmas.{kind_counted}
use Rattle.nr_rev.specs.Aspect.{can_change}
use Rattle.nr_rev.specs.Run.{Recording, world_at}
use Rattle.nr_rev.specs.Step.{Outcome, outcome}
use Rattle.nr_rev.specs.World.{World}
use Rattle.nr_rev.specs.declared.answer.Answer.{Answer}
use Rattle.nr_rev.specs.declared.cell.Cell.{Cell}
use Rattle.nr_rev.specs.declared.cell_value.CellValue.{CellValue}
use Rattle.nr_rev.specs.declared.kind.Kind.{Kind}
use Rattle.nr_rev.specs.declared.step.Step.{Step}
use Rattle.nr_laws.proofs.AspectStepLemmas.{step_keeps_cell}
use Rattle.nr_rev.proofs.CellValueLemmas.{same_value-self}
use Rattle.nr_rev.proofs.RunLemmas.{IsWorldAt-next}
use Rattle.nr_marks.specs.Hit.{hits_between, mark_hits, numbered, watched}
use Rattle.nr_marks.specs.Marks.{NumberedMark, is_watch}
use Rattle.nr_marks.specs.declared.mark.Mark.{Mark}
use Rattle.nr_marks.specs.declared.mark.Mark.TheVariants as mark
use Rattle.nr_marks.specs.declared.mark.NextStep.{NextStep}
use Rattle.nr_snaps.specs.Answers.{answer_at, answer_of}
use Rattle.nr_search.specs.Quiet.{AreChanging, any_break, any_changed, any_stopped, is_changed_by, is_stopped_by}
use Rattle.nr_search.specs.Search.{Remembers}
use Rattle.nr_search.proofs.WatchedLemmas.{below-more}

-- a step that applies doesn't change a cell that its kind can't change
step-keeps : (r : Recording) (n : ℕ) (step : Step) (answer : Answer) → slice_get r.steps n ≡ Some step → answer_at r n ≡ Some answer → (c : Cell) → can_change (kind_of step) c ≡ false
    → cell (world_at r (n + 1)) c ≡ cell (world_at r n) c
step-keeps r n step answer read gives c cannot = go (outcome (world_at r n) step) refl
  where
    go : (o : Outcome) → outcome (world_at r n) step ≡ o → cell (world_at r (n + 1)) c ≡ cell (world_at r n) c
    go (Ok left) is =
        ap (λ w. cell w c) (sym (IsWorldAt-next {State = World} (λ _. Unit {0}) (λ w. w) r n step left.0 (world_at r n) left.1 (record { well_formed = tt; there = refl }) read is tt).there)
        ∙ step_keeps_cell (world_at r n) step left.0 left.1 c is cannot
    go (Err reason) is = let none : None ≡ Some answer = sym (ap answer_of is) ∙ sym (ap (option_and_then (λ s. answer_of (outcome (world_at r n) s))) read) ∙ gives in cc

-- true if the step `made` changes only cells that steps of its kind can change
abbrev pub Keeps : NextStep → World → World → Type 0
Keeps made before after = (c : Cell) → can_change made.kind c ≡ false → cell after c ≡ cell before c

pub made-keeps : (r : Recording) (n : ℕ) (made : NextStep) (answer : Answer) (before after : World) → before ≡ world_at r n → after ≡ world_at r (n + 1) → Some made ≡ numbered n (slice_get r.steps n)
    → answer_at r n ≡ Some answer → Keeps made before after
made-keeps r n made answer before after b a is gives = λ c cannot. ap (λ w. cell w c) a ∙ go (slice_get r.steps n) refl is c cannot ∙ sym (ap (λ w. cell w c) b)
  where
    go : (o : Option Step) → slice_get r.steps n ≡ o → Some made ≡ numbered n o → (c : Cell) → can_change made.kind c ≡ false → cell (world_at r (n + 1)) c ≡ cell (world_at r n) c
    go None read same c cannot = cc
    go (Some step) read same c cannot =
        let kinds : made.kind ≡ kind_of step = ap (λ (m : NextStep). m.kind) (same_step made _ same) in
        step-keeps r n step answer read gives c (ap (λ k. can_change k c) (sym kinds) ∙ cannot)
      where
        same_step : (x y : NextStep) → ◌≡◌ {A = Option NextStep} (Some x) (Some y) → x ≡ y
        same_step x y e = cc

-- the step doesn't change the watched value of a mark
watched-kept : (made : NextStep) (before after : World) (m : Mark) → Keeps made before after → is_changed_by made.kind m ≡ false → watched after m ≡ watched before m
watched-kept made before after (mark.Break wanted) keeps none = refl
watched-kept made before after (mark.TemporaryBreak wanted) keeps none = refl
watched-kept made before after (mark.Watch c) keeps none = keeps c none

-- a mark misses
missed : (made : NextStep) (next : Option NextStep) (before after : World) (m : Mark) → Keeps made before after → is_changed_by made.kind m ≡ false → is_stopped_by next m ≡ false
    → mark_hits before after next m ≡ false
missed made next before after (mark.Break wanted) keeps none stops = stops
missed made next before after (mark.TemporaryBreak wanted) keeps none stops = stops
missed made next before after (mark.Watch c) keeps none stops = ap (λ v. not (same_value (cell before c) v)) (keeps c none) ∙ ap not (same_value-self (cell before c))

neither : (a b : Bool) → (a || b) ≡ false → (a ≡ false) × (b ≡ false)
neither true b none = cc
neither false b none = (refl, none)

-- all marks miss
pub all-missed : (made : NextStep) (next : Option NextStep) (before after : World) (marks : List NumberedMark) → Keeps made before after → any_changed made.kind marks ≡ false
    → any_stopped next marks ≡ false → [] ≡ hits_between before after next marks
all-missed made next before after [] keeps none stops = refl
all-missed made next before after (m ∷ marks) keeps none stops =
    let a = neither (is_changed_by made.kind m.item) _ none in
    let b = neither (is_stopped_by next m.item) _ stops in
    all-missed made next before after marks keeps a.1 b.1
    ∙ ap (λ here. map (λ (x : NumberedMark). x.number) (cond here (m ∷ filter (λ (x : NumberedMark). mark_hits before after next x.item) marks) (filter (λ (x : NumberedMark). mark_hits before after next x.item) marks)))
    (sym (missed made next before after m.item keeps a.0 b.0))

-- the remembered values are still right after the step
pub remembers-on : (made : NextStep) (before after : World) (marks : List NumberedMark) (values : List CellValue) → Keeps made before after → any_changed made.kind marks ≡ false → Remembers before marks values
    → Remembers after marks values
remembers-on made before after marks values keeps none remembered =
    record { each = λ i m read. remembered.each i m read ∙ ap Some (sym (watched-kept made before after m.item keeps (at marks i m none read))) }
  where
    at : (ms : List NumberedMark) (i : ℕ) (m : NumberedMark) → any_changed made.kind ms ≡ false → slice_get ms i ≡ Some m → is_changed_by made.kind m.item ≡ false
    at [] i m none read = cc
    at (x ∷ ms) zero m none read = let same : x ≡ m = cc in ap (λ (y : NumberedMark). is_changed_by made.kind y.item) (sym same) ∙ (neither _ _ none).0
    at (x ∷ ms) (suc i) m none read = at ms i m (neither (is_changed_by made.kind x.item) _ none).1 read

-- no two kinds have the same number
pub numbered-same : (n : ℕ) (kind found : Kind) → n ≡ kind_number kind → kind_numbered n ≡ Some found → found ≡ kind
numbered-same n kind found is at = let both : Some found ≡ Some kind = sym at ∙ ap kind_numbered is ∙ kind_counted kind in cc

-- given the number of a kind, `kind_numbered` is not `None`
pub numbered-some : (n : ℕ) (kind : Kind) → n ≡ kind_number kind → kind_numbered n ≡ None → ⊥
numbered-some n kind is none = let both : None ≡ Some kind = sym none ∙ ap kind_numbered is ∙ kind_counted kind in cc

pub number-below : (kind : Kind) → kind_number kind < 32
number-below Kind.Spawn = omega arith
number-below _ = omega arith

-- true if the table is right about the kinds with numbers below `number`
pub record AreChangingBelow (marks : List NumberedMark) (number : ℕ) (changing : List Bool) : Type 0 where
  pub each : (kind : Kind) → kind_number kind < number → slice_get changing (kind_number kind) ≡ Some (any_changed kind marks)

pub changing-more : (marks : List NumberedMark) (number : ℕ) (changing : List Bool) (here : Bool) → number < length changing → ((kind : Kind) → number ≡ kind_number kind → here ≡ any_changed kind marks)
    → AreChangingBelow marks number changing → AreChangingBelow marks (number + 1) (set changing number here)
changing-more marks number changing here within is before =
    record {
      each = λ kind below. elim (slice_get-set_cases changing number (get_or changing number false) here (kind_number kind) (slice_get-get_or changing number false within)) [
        | inl at ↦ at.1 ∙ ap Some (is kind (sym at.0))
        | inr other ↦ other.1 ∙ before.each kind (below-more (kind_number kind) number below other.0)
      ];
    }

pub changing-all : (marks : List NumberedMark) (number : ℕ) (changing : List Bool) → 32 ≤ number → AreChangingBelow marks number changing → AreChanging marks changing
changing-all marks number changing all known = record { each = λ kind. known.each kind (let below = number-below kind in omega (arith, all, below)) }

-- if no mark is a break, no break names the next step
pub none_stopped : (next : Option NextStep) (marks : List NumberedMark) → any_break marks ≡ false → any_stopped next marks ≡ false
none_stopped next [] none = refl
none_stopped next (m ∷ marks) none =
    let both = neither (not (is_watch m.item)) (any_break marks) none in
    ap (λ b. b || any_stopped next marks) (watch m.item both.0) ∙ none_stopped next marks both.1
  where
    watch : (x : Mark) → not (is_watch x) ≡ false → is_stopped_by next x ≡ false
    watch (mark.Break wanted) is = cc
    watch (mark.TemporaryBreak wanted) is = cc
    watch (mark.Watch c) is = refl

-- if the table says that a kind can't change a watched cell, it can't
pub unchanged_at : (marks : List NumberedMark) (changing : List Bool) (kind : Kind) (number : ℕ) → AreChanging marks changing → number ≡ kind_number kind → get_or changing number false ≡ false
    → any_changed kind marks ≡ false
unchanged_at marks changing kind number known is read =
    sym (get_or_from_slice_get changing (kind_number kind) (any_changed kind marks) false (known.each kind)) ∙ ap (λ i. get_or changing i false) (sym is) ∙ read
