use Rattle.std.proofs.Common.{◌∙◌, ap, rules}
use Rattle.nr_front.specs.FrontState.{FrontState}
use Rattle.nr_front.proofs.StepsLemmas.{is_refused, learns_run, learns_then, learns_word, seen_all_more, seen_all_run}
use Rattle.nr_front.proofs.front.Front.offer_until_placed.Goals as goal

pub loop-self-preserved : goal.loop-self-preserved
loop-self-preserved g c =
    let so_far = c.loop-self.invariant in
    let lost = c.in-Lost.ensures in
    let learns = learns_then _ _ _ so_far.1 (learns_word _ _ _ so_far.1.unowed_still lost) in
    let run = c.in_ok-run_pending-in-Lost.ensures.without_pending in
    let seen = seen_all_more c.in-Lost.field-0 c.loop-self.self c.offer.new.self so_far.3 lost in (
      ap (λ (d : FrontState). d.table) run ∙ lost.same.table ∙ so_far.0,
      learns_run _ _ _ learns run,
      ap (λ (d : FrontState). d.pending) run,
      seen_all_run c.offer.new.self c.run_pending.new.self seen run,
    )

pub returns-in_err-run_pending-in-Lost : goal.returns-in_err-run_pending-in-Lost
returns-in_err-run_pending-in-Lost g c =
    let so_far = c.loop-self.invariant in
    let learns = learns_then _ _ _ so_far.1 (learns_word _ _ _ so_far.1.unowed_still c.in-Lost.ensures) in
    let refused = is_refused _ _ _ learns c.in_err-run_pending-in-Lost.ensures.unchanged c.in_err-run_pending-in-Lost.ensures.memory c.run_pending.ensures.company in
    search rules
