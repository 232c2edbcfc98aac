use Rattle.std.proofs.Common.{◌≡◌, ◌-◌, ◌∙◌, filter, map, ap, subst}
use Rattle.std.proofs.lemmas.List.{take_all}
use Rattle.nr_rev.specs.Run.{world_at}
use Rattle.nr_rev.specs.declared.cell_value.CellValue.TheVariants.{Absent}
use Rattle.nr_marks.specs.Hit.{hits_between, hits_by}
use Rattle.nr_search.proofs.StepLemmas.{numbers-by-step}
use Rattle.nr_search.proofs.steps.look_at_step.Goals as goal

-- every break has been checked
pub returns : goal.returns
returns g c =
    let r = c.args.film.now.recording in
    let marks = c.args.marks.now in
    let before = world_at r (c.args.p - 1) in
    let after = world_at r c.args.p in
    subst (λ ms. c.loop-numbered.hits.items ≡ map (λ m. m.number) (filter (λ m. hits_by Absent Absent c.next_step-next.result m.item) ms))
    (take_all c.loop-numbered.numbered-index marks c.loop-numbered-test.false) c.loop-numbered.invariant.so_far
    ∙ numbers-by-step before after c.next_step-next.result marks c.requires.breaks
    ∙ ap (λ next. hits_between before after next marks) c.next_step-next.ensures
