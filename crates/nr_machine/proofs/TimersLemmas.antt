-- Steps of the clock and of timers have the same outcome in the parts and in the machine.
use Rattle.std.proofs.Common.{◌≡◌, false, [], ℤ, refl, lit≤}
use Rattle.std.specs.Prelude.{int_lt}
use Rattle.nr_rev.specs.declared.answer.Answer.TheVariants.{Done}
use Rattle.nr_rev.specs.Step.{tick}
use Rattle.nr_machine.specs.declared.delta.TheConstants.{MOST_WORDS}
use Rattle.nr_machine.specs.declared.delta.WorldUndo.TheVariants.{Clock}
use Rattle.nr_machine.specs.Fits.{IsWorld}
use Rattle.nr_machine.specs.Auxiliary.Made.{Made}
use Rattle.nr_machine.specs.World.{WorldParts, meant}
use Rattle.nr_machine.proofs.FitsLemmas.{counted_fits, retied}

-- the clock advances
pub tick_made : (m : WorldParts) (t : ℤ) → IsWorld m → int_lt t m.core.clock ≡ false
    → Made (tick t (meant m)) [] MOST_WORDS m Done (Clock m.core.clock) (record m { core = record m.core { clock = t } })
tick_made m t h later = (
  record {
    leads = rw later refl;
    parts = retied m (record m.core { clock = t }) h.parts
        (counted_fits m.core m.core.goroutines m.core.free t m.core.waiters h.parts.core h.parts.core.queued refl refl refl)
        (record { limits = refl; locks = refl; semaphores = λ s both past at. at; unarmed = λ all d past. all d past });
    timers = refl;
  },
  (
    (refl, refl),
    lit≤ tt,
  ),
)
