use Rattle.std.proofs.Common.{◌≡◌, Some, sym, refl, ap, subst, ◌∙◌, arith}
use Rattle.std.specs.Slice.Iter.{iter_rest}
use Rattle.serde_json.specs.Data.{array}
use Rattle.serde_json.specs.View.{view, items_view}
use Rattle.nr_recording.specs.Auxiliary.Faults.{ReadsBy}
use Rattle.nr_recording.specs.Part.{elements}
use Rattle.nr_recording.specs.Recording.{recorded}
use Rattle.nr_recording.specs.Reading.{with_value}
use Rattle.nr_recording.specs.Auxiliary.Reading.{value_takes_memory}
use Rattle.nr_recording.proofs.ElementsLemmas.{seen_by_elements, memory_by_elements}
use Rattle.nr_recording.proofs.RangeLemmas.{header_fits, none_before}
use Rattle.nr_recording.proofs.reading.RecordingReader.take_value.Goals as goal

pub invariant_of-self : goal.invariant_of-self
invariant_of-self c =
    let seen = c.self.invariant.0 in
    let none = none_before c.self.inside.header (recorded c.self.inside.steps.items c.self.inside.answers.items) seen.writable c.in_default.not-Some in (
      record {
        limits = (header_fits _ _ _ (sym c.header.ensures ∙ c.in_ok-limits.was)).0;
        buffer = (header_fits _ _ _ (sym c.header.ensures ∙ c.in_ok-limits.was)).1;
        few = seen.few;
        writable = rw none refl;
      },
      c.self.invariant.1,
    )

pub returns-clause-seen : goal.returns-clause-seen
returns-clause-seen c =
    let seen = c.args.self.now in
    let d = view c.args.value.now in
    let begun : seen.header ≡ Some c.in-Some.begun = grind arith in
    let parts : items_view (iter_rest c.iter.result) ≡ elements d = ap items_view c.iter.ensures.rest ∙ c.elements.ensures in
    let same : with_value seen seen.header (array (items_view (iter_rest c.iter.result))) ≡ with_value seen seen.header d =
    ap (λ ds. with_value seen seen.header (array ds)) parts ∙ seen_by_elements seen seen.header c.in-Some.begun d begun in
    subst (ReadsBy _ c.step.result) same c.step.ensures.seen

pub returns-clause-memory : goal.returns-clause-memory
returns-clause-memory c =
    let seen = c.args.self.now in
    let d = view c.args.value.now in
    let begun : seen.header ≡ Some c.in-Some.begun = grind arith in
    let parts : items_view (iter_rest c.iter.result) ≡ elements d = ap items_view c.iter.ensures.rest ∙ c.elements.ensures in
    let same : value_takes_memory seen seen.header (array (items_view (iter_rest c.iter.result))) ≡ value_takes_memory seen seen.header d =
    ap (λ ds. value_takes_memory seen seen.header (array ds)) parts ∙ memory_by_elements seen seen.header c.in-Some.begun d begun in
    λ none. sym same ∙ c.step.ensures.memory none
