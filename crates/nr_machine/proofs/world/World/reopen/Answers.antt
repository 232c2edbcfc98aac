use Rattle.std.proofs.Common.{◌≡◌, Ok, Some}
use Rattle.std.specs.Prelude.{slice_get}
use Rattle.nr_rev.specs.Step.{row_of}
use Rattle.nr_machine.specs.declared.delta.WorldUndo.TheVariants.{Reopened}
use Rattle.nr_machine.specs.Fits.{IsWorld}
use Rattle.nr_machine.specs.World.{WorldParts, meant}
use Rattle.nr_machine.proofs.OpeningLemmas.{reopening_made}
use Rattle.nr_machine.proofs.RowsLemmas.{row_with}
use Rattle.nr_machine.proofs.world.World.reopen.Goals as goal

pub returns : goal.returns
returns g c =
    let m : WorldParts = record { core = c.self.inside.core; socks = c.self.inside.socks.items } in
    let d = c.args.descriptor in
    let x = c.in_ok-desc.desc in
    let world : IsWorld m = rw (← c.self.view_is) at c.requires.world in
    let found : row_of d (meant m) ≡ Ok (row_with m d x) =
    rw (← c.self.view_is) at c.in_ok-desc.ensures in
    let first : slice_get m.core.free.items 0 ≡ Some d =
    rw (← c.self.view_is) at c.requires.first in
    rw (← c.self.view_is, c.set_descriptor.ensures, c.take_first.ensures.rest) (
      Reopened (record { descriptor = d; before = c.in_ok-before.before }),
      c.put.ensures,
      reopening_made m c.args.socket d x c.apply.new.self c.in_ok-before.field-0-0 c.in_ok-before.before world first c.take_first.ensures.within found
          c.in_ok-before.ensures.step c.in_ok-before.ensures.well_formed c.in_ok-before.ensures.back,
    )
