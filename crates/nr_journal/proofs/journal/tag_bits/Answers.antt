use Rattle.std.proofs.Common.{ℕ, ◌+◌, bit_or, subst, sym, arith}
use Rattle.std.proofs.lemmas.Nat.{one_shl}
use Rattle.nr_journal.specs.Auxiliary.Rule.{AreDrawn, AreFew}
use Rattle.nr_journal.proofs.GiveLemmas.{drawn_more, few_more}
use Rattle.nr_journal.proofs.journal.tag_bits.Goals as goal

pub loop-tag-preserved : goal.loop-tag-preserved
loop-tag-preserved c =
    let tags = c.loop-tag.tags in
    let tag = c.loop-tag.tag in
    let bit = one_shl tag 64 (omega (arith, c.loop-tag-test.true, c.requires)) in
    subst (λ (b : ℕ). AreDrawn (bit_or tags b) (tag + 1) × AreFew (tag + 1) (bit_or tags b)) (sym bit) (drawn_more tags tag c.loop-tag.invariant.0, few_more tags tag c.loop-tag.invariant.1)
