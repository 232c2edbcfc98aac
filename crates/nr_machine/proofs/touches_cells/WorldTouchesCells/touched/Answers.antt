use Rattle.std.proofs.Common.{◌≡◌, ℕ, length, [], Some, None, rules, sym, ap, ◌∙◌}
use Rattle.nr_changes.specs.Touched.{touched}
use Rattle.nr_machine.specs.World.{WorldParts, meant}
use Rattle.nr_machine.proofs.SocketsLemmas.{length-sockets_of}
use Rattle.nr_machine.proofs.touches_cells.WorldTouchesCells.touched.Goals as goal

pub returns-in-SockOpen : goal.returns-in-SockOpen
returns-in-SockOpen c =
    let m = c.args.self.now in
    let made : c.new-in-SockOpen-2.result ≡ record { goroutines = []; socket = Some c.len.result; descriptor = None } = search rules in
    let many : c.len.result ≡ length (meant m).sockets =
    c.len.ensures.len ∙ ap (λ (m : WorldParts). length m.core.locks.items) c.self.view_is ∙ sym (length-sockets_of m.core.locks.items m.core.goroutines.semaphores m.socks) in
    made ∙ ap (λ (n : ℕ). record { goroutines = []; socket = Some n; descriptor = None }) many
    ∙ ap (touched (meant m)) (sym c.in-SockOpen.is)
