-- A due timer goes off.
use Rattle.std.proofs.Common.{◌≡◌, Bool, true, [], ◌∷◌, ◌++◌, length, Some, Result, Ok, refl, sym, ap, subst, ◌∙◌, ◌*◌}
use Rattle.std.specs.Prelude.{slice_get, int_le, nat_lt}
use Rattle.nr_rev.specs.declared.answer.Answer.{Answer}
use Rattle.nr_rev.specs.declared.answer.Answer.TheVariants.{Done}
use Rattle.nr_rev.specs.declared.descriptor.DescriptorRow.{DescriptorRow}
use Rattle.nr_rev.specs.declared.refusal.Refusal.{Refusal}
use Rattle.nr_rev.specs.declared.step.Step.{Step}
use Rattle.nr_rev.specs.declared.timer.Entry.{Entry}
use Rattle.nr_rev.specs.Refusing.{◌>>◌, found_or, refused_unless}
use Rattle.nr_rev.specs.Sides.{of_side}
use Rattle.nr_rev.specs.Step.{outcome, row_of}
use Rattle.nr_rev.specs.World.{World, least_entry}
use Rattle.nr_protocol.proofs.FiringWakeLemmas.{Leads, Leads-bind}
use Rattle.nr_laws.proofs.TimerStepLemmas.{least_is_there}

Leads-then : {B : Type 0} {Q : B → Type 0} (c : Bool) (reason : Refusal) (rest : Result B Refusal) → c ≡ true → Leads Q rest → Leads Q (refused_unless c reason >> rest)
Leads-then {Q = Q} c reason rest is next = subst (λ x. Leads Q (refused_unless x reason >> rest)) (sym is) next

pub due_timer_pops : (w : World) (e : Entry) → least_entry w ≡ Some e → int_le e.timer.due w.clock ≡ true → nat_lt (length w.firings) (2 * w.limits.descriptors) ≡ true
    → (next : World) × (outcome w Step.Pop ≡ Ok (Done, next)) × (next.firings ≡ w.firings ++ e ∷ [])
due_timer_pops w e least due room =
    let led : Leads (λ (left : Answer × World). (left.0 ≡ Done) × (left.1.firings ≡ w.firings ++ e ∷ [])) (outcome w Step.Pop) =
    Leads-bind (found_or (least_entry w) Refusal.NoTimerDue) _ e (ap (λ o. found_or o Refusal.NoTimerDue) least)
    (Leads-then (int_le e.timer.due w.clock) Refusal.NoTimerDue _ due
    (Leads-then (nat_lt (length w.firings) (2 * w.limits.descriptors)) Refusal.FiringsFull _ room
    (Leads-bind (row_of e.descriptor w) _ made.0 (ap (λ o. found_or o Refusal.NoSuchDescriptor) made.1)
    (_, refl, (refl, refl)))))
    in
    (led.0.1, led.1 ∙ ap (λ answer. Ok (answer, led.0.1)) led.2.0, led.2.1)
  where
    made : (row : DescriptorRow) × (slice_get w.descriptors e.descriptor ≡ Some row) × (of_side e.side row.timers ≡ Some e.timer)
    made = least_is_there w e least
