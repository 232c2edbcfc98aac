use Rattle.std.proofs.Common.{◌≡◌, ℕ, ◌<◌, ◌≤◌, [], List, length, Ok, rules, arith, refl, sym, ap, ◌∙◌}
use Rattle.nr_rev.specs.Step.{idle}
use Rattle.nr_machine.specs.Opening.{opening_of}
use Rattle.nr_machine.specs.World.{meant}
use Rattle.nr_machine.proofs.OpeningLemmas.{none_free, opening_is, opening_nowhere}
use Rattle.nr_machine.proofs.world.World.pollopen.Goals as goal

pub returns-then-socket-len : goal.returns-then-socket-len
returns-then-socket-len g c =
    let now = c.args.self.now in
    let is_idle : idle c.args.goroutine (meant now) ≡ Ok tt = search rules in
    let past : length now.core.locks.items ≤ c.args.socket = rw (← c.self.view_is) (omega arith) in
    (opening_nowhere now c.args.goroutine c.args.socket is_idle past, refl)

pub returns-in-None : goal.returns-in-None
returns-in-None g c =
    let now = c.args.self.now in
    let is_idle : idle c.args.goroutine (meant now) ≡ Ok tt = search rules in
    let within : c.args.socket < length now.core.locks.items = rw (← c.self.view_is) (omega arith) in
    let none : now.core.free.items ≡ [] = rw (← c.self.view_is) (none_free c.self.inside.core.free.items (sym c.get.ensures ∙ c.in-None.is)) in
    rw (opening_is now c.args.goroutine c.args.socket is_idle within ∙ ap (λ (free : List ℕ). opening_of c.args.socket free (meant now)) none) c.open_new.ensures

pub returns-in-Some : goal.returns-in-Some
returns-in-Some g c =
    let now = c.args.self.now in
    let is_idle : idle c.args.goroutine (meant now) ≡ Ok tt = search rules in
    let within : c.args.socket < length now.core.locks.items = rw (← c.self.view_is) (omega arith) in
    rw (opening_is now c.args.goroutine c.args.socket is_idle within) c.reopen.ensures
