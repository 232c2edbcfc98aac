use Rattle.std.proofs.Common.{sym, ◌∙◌}
use Rattle.nr_timers.proofs.SiftLemmas.{up_moved, up_raised, up_ordered, Raised-none}
use Rattle.nr_timers.proofs.heap.Heap.+raise.Goals as goal

pub returns-then-is_less_at-clause-moved : goal.returns-then-is_less_at-clause-moved
returns-then-is_less_at-clause-moved t c =
    up_moved c.args.self.now.entries c.swap.new.self.entries c.raise.new.self.entries c.args.place c.raise.result c.if-place-gt0.true c.requires (sym c.is_less_at.ensures ∙ c.if-is_less_at.true)
    c.swap.ensures.entries c.raise.ensures.moved

pub returns-then-is_less_at-clause-raised : goal.returns-then-is_less_at-clause-raised
returns-then-is_less_at-clause-raised t c =
    up_raised c.args.self.now.entries c.swap.new.self.entries c.raise.new.self.entries c.args.place c.raise.result c.if-place-gt0.true c.requires (sym c.is_less_at.ensures ∙ c.if-is_less_at.true)
    c.swap.ensures.entries c.raise.ensures.moved c.raise.ensures.raised

pub returns-then-is_less_at-clause-ordered : goal.returns-then-is_less_at-clause-ordered
returns-then-is_less_at-clause-ordered t c =
    up_ordered c.args.self.now.entries c.swap.new.self.entries c.raise.new.self.entries c.args.place c.raise.result c.if-place-gt0.true c.requires (sym c.is_less_at.ensures ∙ c.if-is_less_at.true)
    c.swap.ensures.entries c.raise.ensures.ordered

pub returns-else-is_less_at-clause-raised : goal.returns-else-is_less_at-clause-raised
returns-else-is_less_at-clause-raised t c = Raised-none c.args.self.now.entries c.args.place (λ _. sym c.is_less_at.ensures ∙ c.if-is_less_at.false)
