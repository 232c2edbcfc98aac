use Rattle.std.proofs.Common.{◌≡◌, length, None, rules, sym, ap, ◌∙◌}
use Rattle.std.specs.Prelude.{slice_get}
use Rattle.nr_machine.specs.World.{WorldParts}
use Rattle.nr_machine.proofs.TouchLemmas.{next_more}
use Rattle.nr_machine.proofs.world.World.next_descriptor.Goals as goal

pub returns-in-None : goal.returns-in-None
returns-in-None c =
    let m = c.args.self.now in
    let none : slice_get m.core.free.items 0 ≡ None = search rules in
    c.len.ensures.len ∙ ap (λ (m : WorldParts). length m.core.descriptors.items) c.self.view_is ∙ sym (next_more m none)
