use Rattle.std.proofs.Common.{ℕ, List, ◌++◌, ap, sym, ◌∙◌, append-nil}
use Rattle.nr_serving.proofs.logged.LoggedPorts.new.Goals as goal

-- no port has been opened since the ports were wrapped
pub invariant_of-result : goal.invariant_of-result
invariant_of-result g c =
    let before = g.P.Ports.opened c.args.ports in
    (before, sym (append-nil before) ∙ ap (λ (l : List ℕ). before ++ l) (sym c.new.ensures.0))
