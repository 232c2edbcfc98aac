use Rattle.std.proofs.Common.{◌≡◌, length, rules, sym, ap, ◌∙◌, arith}
use Rattle.std.specs.Prelude.{if◌then◌else◌, nat_lt, slice_get}
use Rattle.nr_rev.specs.declared.sides.Side.{Side}
use Rattle.nr_rev.specs.declared.sides.Side.TheVariants.{Read, Write}
use Rattle.nr_rev.specs.declared.status.Status.{Status}
use Rattle.nr_changes.specs.Touched.{front_for}
use Rattle.nr_gsema.specs.Auxiliary.Table.{queue_at}
use Rattle.nr_machine.specs.World.{WorldParts, meant}
use Rattle.nr_machine.proofs.TouchLemmas.{front_here, no_front}
use Rattle.nr_machine.proofs.world.World.front_for.Goals as goal
use Rattle.nr_machine.proofs.world.World.front_for.Goals.{then-reads-gt0, else-reads-gt0}

pub returns-then-socket-len : goal.returns-then-socket-len
returns-then-socket-len c =
    let m = c.args.self.now in
    let side : Side = if nat_lt 0 c.in-Owing.reads then Read else Write in
    let len = c.len.ensures.len ∙ ap (λ (m : WorldParts). length m.core.locks.items) c.self.view_is in
    let past = c.if-socket-len.true in
    sym (ap (λ (s : Status). front_for s (meant m)) c.in-Owing.is ∙ no_front m c.in-Owing.socket side (omega (arith, len, past)))

pub returns : goal.returns
returns c =
    let m = c.args.self.now in
    let side : Side = if nat_lt 0 c.in-Owing.reads then Read else Write in
    let len = c.len.ensures.len ∙ ap (λ (m : WorldParts). length m.core.locks.items) c.self.view_is in
    let within = c.if-socket-len.false in
    let same : c.if-reads-gt0.side ≡ side = elim c.if-reads-gt0.branch [ then-reads-gt0 w ↦ search rules | else-reads-gt0 w ↦ search rules ] in
    let found : c.front_of.result ≡ slice_get (queue_at c.in-Owing.socket c.if-reads-gt0.side m.core.goroutines) 0 = search rules in
    found
    ∙ ap (λ (x : Side). slice_get (queue_at c.in-Owing.socket x m.core.goroutines) 0) same
    ∙ sym (ap (λ (s : Status). front_for s (meant m)) c.in-Owing.is ∙ front_here m c.in-Owing.socket side (omega (arith, len, within)))
