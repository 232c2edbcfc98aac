use Rattle.std.proofs.Common.{◌≡◌, Some, rules, ap, ◌∙◌}
use Rattle.std.specs.Prelude.{slice_get}
use Rattle.nr_rev.specs.declared.descriptor.Descriptor.{Descriptor}
use Rattle.nr_machine.proofs.ChangingLemmas.{described_back}
use Rattle.nr_machine.proofs.world_core.Core.describe.Goals as goal

pub returns-clause-ok : goal.returns-clause-ok
returns-clause-ok c =
    let there : slice_get c.args.self.now.descriptors.items c.args.descriptor ≡ Some c.in-Some.desc = search rules in (
      c.in-Some.desc,
      c.apply.new.self,
      record {
        there = there;
        step = c.in_ok-answer.ensures.step;
        rest = c.set_descriptor.ensures;
        fits = c.in_ok-answer.ensures.well_formed;
        back = described_back c.args.self.now c.set_descriptor.new.self c.args.descriptor c.apply.new.self c.in_ok-answer.before.before
            (there ∙ ap (λ (x : Descriptor). Some x) c.in_ok-answer.ensures.back) c.set_descriptor.ensures;
      },
    )
