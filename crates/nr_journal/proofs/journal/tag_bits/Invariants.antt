use Rattle.nr_journal.specs.Auxiliary.Rule.{AreDrawn, AreFew}
use Rattle.nr_journal.proofs.journal.tag_bits.Given as goal

-- the bits of the tags so far are set
abbrev pub invariant-loop-tag : goal.invariant-loop-tag
invariant-loop-tag l = AreDrawn l.tags l.tag × AreFew l.tag l.tags
