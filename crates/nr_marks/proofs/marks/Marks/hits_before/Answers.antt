use Rattle.std.proofs.Common.{◌≡◌, ◌≤◌, length, take, sym, subst}
use Rattle.std.proofs.lemmas.List.{take_all}
use Rattle.nr_marks.specs.Hit.{hits_between, mark_hits}
use Rattle.nr_marks.specs.Auxiliary.Numbered.{RisesWithin, numbers_of}
use Rattle.nr_marks.proofs.NumberedLemmas.{RisesWithin-filter}
use Rattle.nr_marks.proofs.marks.Marks.hits_before.Goals as goal

-- the numbers of the marks that hit are in ascending order, as are those of all marks
pub returns-clause-rising : goal.returns-clause-rising
returns-clause-rising g c =
    let before = g.W.Worlds.world c.args.before.now in
    let after = g.W.Worlds.world c.args.after.now in
    let marks = c.args.self.now.present in
    let seen = c.as_slice-numbered-items.ensures.marks in
    let whole : take c.loop-numbered.numbered-index marks ≡ marks =
    take_all c.loop-numbered.numbered-index marks (subst (λ ms. length ms ≤ c.loop-numbered.numbered-index) seen c.loop-numbered-test.false) in
    let all : c.loop-numbered.hits.items ≡ hits_between before after c.args.next marks =
    subst (λ ms. c.loop-numbered.hits.items ≡ hits_between before after c.args.next ms) whole c.loop-numbered.invariant.so_far in
    subst (λ ns. RisesWithin 0 ns c.args.self.now.made) (sym all)
    (RisesWithin-filter (λ m. mark_hits before after c.args.next m.item) 0 marks c.args.self.now.made
    (subst (λ ms. RisesWithin 0 (numbers_of ms) c.args.self.now.made) seen c.as_slice-numbered-items.ensures.rising))
