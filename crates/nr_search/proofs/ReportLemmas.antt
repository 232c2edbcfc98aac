-- What is known about segments after reports are noted.
use Rattle.std.proofs.Common.{◌≡◌, ◌≢◌, ◌⊎◌, inl, inr, ℕ, ◌+◌, ◌<◌, ◌≤◌, false, All, List, [], ◌∷◌, ◌++◌, length, map, take, get_or, replicate, Some, Result, Ok, Err, refl, sym, ap, ◌∙◌, subst, arith}
use Rattle.std.specs.Prelude.{OnErr}
use Rattle.std.proofs.lemmas.List.{get_or-replicate, length-replicate, map_more, take_more}
use Rattle.std.proofs.lemmas.List.Elements.{All-head, All-tail}
use Rattle.std.proofs.lemmas.Option.{slice_get-get_or, slice_get_past}
use Rattle.nr_search.specs.Known.{AreTrue, IsLeftOpen, IsTrue, has_hit, is_searched, or_unknown, slot_of}
use Rattle.nr_search.specs.Reports.{AddsTo, IsReport, noted, first_known, said_by, said_in}
use Rattle.nr_search.specs.Search.{nth_on_way}
use Rattle.nr_search.specs.declared.segments.Span.{Span}
use Rattle.nr_search.specs.declared.slot.Report.{Report}
use Rattle.nr_search.specs.declared.slot.Slot.{Slot}
use Rattle.nr_search.specs.declared.slot.Slot.TheVariants.{Unknown, Refused, Searched}
use Rattle.nr_search.proofs.SegmentLemmas.{nth-within}

-- ---- what the first report says

-- an `Unknown` report leaves the slot unchanged
first_known-none : (slot : Slot) → first_known slot Unknown ≡ slot
first_known-none Unknown = refl
first_known-none (Refused _) = refl
first_known-none (Searched found) = refl

first_known-thrice : (a b c : Slot) → first_known (first_known a b) c ≡ first_known a (first_known b c)
first_known-thrice Unknown b c = refl
first_known-thrice (Refused _) b c = refl
first_known-thrice (Searched found) b c = refl

within-or-past : (s n : ℕ) → (s < n) ⊎ (n ≤ s)
within-or-past s n = grind arith

said-other : (report : Report) (s : ℕ) → s ≢ report.segment → said_by report s ≡ Unknown
said-other report s other = grind arith

said-here : (report : Report) (s : ℕ) → s ≡ report.segment → said_by report s ≡ report.slot
said-here report s here = grind arith

-- what a list of reports says after one report is appended
said-more : (before : List Report) (report : Report) (s : ℕ) → said_in (before ++ report ∷ []) s ≡ first_known (said_in before s) (said_by report s)
said-more [] report s = first_known-none (said_by report s)
said-more (first ∷ before) report s =
    ap (first_known (said_by first s)) (said-more before report s) ∙ sym (first_known-thrice (said_by first s) (said_in before s) (said_by report s))

noted-more : (by_worker : List (List Report)) (one_worker : List Report) (s : ℕ) → noted (by_worker ++ one_worker ∷ []) s ≡ first_known (noted by_worker s) (said_in one_worker s)
noted-more [] one_worker s = first_known-none (said_in one_worker s)
noted-more (first ∷ by_worker) one_worker s =
    ap (first_known (said_in first s)) (noted-more by_worker one_worker s) ∙ sym (first_known-thrice (said_in first s) (noted by_worker s) (said_in one_worker s))

-- ---- what is known after noting reports

same-or-other : (a b : ℕ) → (a ≡ b) ⊎ (a ≢ b)
same-or-other a b = grind arith

-- an empty list of reports leaves all slots unchanged
pub adds-none : (slots : List Slot) → AddsTo slots (λ s. Unknown) slots
adds-none slots = record { each = λ s within. sym (first_known-none (slot_of slots s)); count = refl }

-- noting two groups of reports one after the other has the same effect as noting them together
adds-next : (slots slots' slots'' : List Slot) (said more all : ℕ → Slot) → ((s : ℕ) → all s ≡ first_known (said s) (more s)) → AddsTo slots said slots' → AddsTo slots' more slots''
    → AddsTo slots all slots''
adds-next slots slots' slots'' said more all both first second =
    record {
      each = λ s within.
          second.each s (omega (arith, first.count, within)) ∙ ap (λ slot. first_known slot (more s)) (first.each s within)
          ∙ first_known-thrice (slot_of slots s) (said s) (more s) ∙ ap (first_known (slot_of slots s)) (sym (both s));
      count = second.count ∙ first.count;
    }

pub adds-report : (slots slots' slots'' : List Slot) (reports : List Report) (i : ℕ) (report : Report) → i < length reports → report ≡ get_or reports i report
    → AddsTo slots (said_in (take i reports)) slots' → AddsTo slots' (said_by report) slots'' → AddsTo slots (said_in (take (i + 1) reports)) slots''
adds-report slots slots' slots'' reports i report within read =
    let more : take (i + 1) reports ≡ take i reports ++ report ∷ [] = take_more reports i report within ∙ ap (λ r. take i reports ++ r ∷ []) (sym read) in
    adds-next slots slots' slots'' (said_in (take i reports)) (said_by report) (said_in (take (i + 1) reports))
    (λ s. ap (λ rs. said_in rs s) more ∙ said-more (take i reports) report s)

module _ {X : Type 0} (items : X → List Report) where
  pub adds-one_worker : (slots slots' slots'' : List Slot) (by_worker : List X) (i : ℕ) (one_worker : X) → i < length by_worker → one_worker ≡ get_or by_worker i one_worker
      → AddsTo slots (noted (map items (take i by_worker))) slots' → AddsTo slots' (said_in (items one_worker)) slots'' → AddsTo slots (noted (map items (take (i + 1) by_worker))) slots''
  adds-one_worker slots slots' slots'' by_worker i one_worker within read =
      let more : map items (take (i + 1) by_worker) ≡ map items (take i by_worker) ++ items one_worker ∷ [] =
      map_more items by_worker i one_worker within ∙ ap (λ r. map items (take i by_worker) ++ items r ∷ []) (sym read) in
      adds-next slots slots' slots'' (noted (map items (take i by_worker))) (said_in (items one_worker)) (noted (map items (take (i + 1) by_worker)))
      (λ s. ap (λ rs. noted rs s) more ∙ noted-more (map items (take i by_worker)) (items one_worker) s)

-- if all slots were `Unknown`, then after reports are noted, each slot is what the reports say
-- about its segment
blank : (n s : ℕ) → s < n → slot_of (replicate n Unknown) s ≡ Unknown
blank n s within =
    ap or_unknown (slice_get-get_or (replicate n Unknown) s Unknown (omega (arith, length-replicate n Unknown, within)) ∙ ap Some (get_or-replicate n s Unknown Unknown within))

pub table-is : (n : ℕ) (said : ℕ → Slot) (table : List Slot) → AddsTo (replicate n Unknown) said table → (s : ℕ) → s < n → slot_of table s ≡ said s
table-is n said table adds s within =
    adds.each s (omega (arith, length-replicate n Unknown, within)) ∙ ap (λ slot. first_known slot (said s)) (blank n s within)

-- ---- what is known is right

module _ (span : Span) (hits : ℕ → List ℕ) where
  unknown-true : (s : ℕ) → IsTrue span hits s Unknown
  unknown-true s = record { found = λ found said. absurd (grind (arith, said)) }

  first_known-true : (s : ℕ) (slot said : Slot) → IsTrue span hits s slot → IsTrue span hits s said → IsTrue span hits s (first_known slot said)
  first_known-true s Unknown said first second = second
  first_known-true s (Refused _) said first second = first
  first_known-true s (Searched found) said first second = first

  said-true : (report : Report) (s : ℕ) → IsReport span hits report → IsTrue span hits s (said_by report s)
  said-true report s is =
      elim (same-or-other s report.segment) [
        | inl here ↦ subst (IsTrue span hits s) (sym (said-here report s here)) (subst (λ t. IsTrue span hits t report.slot) (sym here) is.holds)
        | inr other ↦ subst (IsTrue span hits s) (sym (said-other report s other)) (unknown-true s)
      ]

  one_worker-true : (reports : List Report) (s : ℕ) → All (IsReport span hits) reports → IsTrue span hits s (said_in reports s)
  one_worker-true [] s each = unknown-true s
  one_worker-true (report ∷ reports) s each =
      first_known-true s (said_by report s) (said_in reports s) (said-true report s (All-head (IsReport span hits) report reports each))
      (one_worker-true reports s (All-tail (IsReport span hits) report reports each))

  module _ {X : Type 0} (items : X → List Report) where
    by_worker-true : (by_worker : List X) (s : ℕ) → All (λ one_worker. All (IsReport span hits) (items one_worker)) by_worker → IsTrue span hits s (noted (map items by_worker) s)
    by_worker-true [] s each = unknown-true s
    by_worker-true (one_worker ∷ by_worker) s each =
        first_known-true s (said_in (items one_worker) s) (noted (map items by_worker) s)
        (one_worker-true (items one_worker) s (All-head (λ r. All (IsReport span hits) (items r)) one_worker by_worker each))
        (by_worker-true by_worker s (All-tail (λ r. All (IsReport span hits) (items r)) one_worker by_worker each))

    pub table-true : (n : ℕ) (by_worker : List X) (table : List Slot) → All (λ one_worker. All (IsReport span hits) (items one_worker)) by_worker
        → AddsTo (replicate n Unknown) (noted (map items by_worker)) table → AreTrue span hits (slot_of table)
    table-true n by_worker table each adds =
        record {
          each = λ s. elim (within-or-past s n) [
            | inl within ↦ subst (IsTrue span hits s) (sym (table-is n (noted (map items by_worker)) table adds s within)) (by_worker-true by_worker s each)
            | inr past ↦
                let none : slot_of table s ≡ Unknown = ap or_unknown (slice_get_past table s (omega (arith, past, adds.count, length-replicate n Unknown))) in
                subst (IsTrue span hits s) (sym none) (unknown-true s)
          ];
        }

-- ---- which segments remain open

pub open-like : (span : Span) (known known' : ℕ → Slot) → ((s : ℕ) → s < span.first + span.count → known s ≡ known' s) → IsLeftOpen span known → IsLeftOpen span known'
open-like span known known' same open_ =
    let nth = nth_on_way span.direction span.first span.count in
    record {
      place = open_.place;
      within = open_.within;
      unsearched = subst (λ slot. is_searched slot ≡ false) (same (nth open_.place) (nth-within span.direction span.first span.count open_.place open_.within).1) open_.unsearched;
      nearer = λ k below.
          subst (λ slot. has_hit slot ≡ false) (same (nth k) (nth-within span.direction span.first span.count k (omega (arith, below, open_.within))).1) (open_.nearer k below);
    }

pub on_err-like : {A E : Type 0} {P Q : Type 0} (result : Result A E) → (P → Q) → OnErr result P → OnErr result Q
on_err-like (Ok a) f p = tt
on_err-like (Err e) f p = f p
