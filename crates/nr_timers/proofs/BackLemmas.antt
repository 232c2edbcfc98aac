-- An entry that was removed can be inserted again.
use Rattle.std.proofs.Common.{◌≡◌, ⊎_elim, ℕ, ◌+◌, ◌<◌, ◌≤◌, List, [], ◌∷◌, ◌++◌, length, refl, sym, ap, ◌∙◌, subst, arith}
use Rattle.std.specs.List.{swap}
use Rattle.std.proofs.lemmas.List.{get_or_append_left, get_or_push, length_push}
use Rattle.std.proofs.lemmas.List.Edits.{Swapped, length-swap}
use Rattle.std.proofs.lemmas.Bool.{cases_eq}
use Rattle.nr_rev.specs.declared.timer.Entry.{Entry}
use Rattle.nr_timers.specs.Order.{at, blank}
use Rattle.nr_timers.specs.Auxiliary.Change.{TakenBack, RemovedBack}
use Rattle.nr_timers.specs.BackLaws.{TakenBack-unique}
use Rattle.nr_timers.specs.Index.{key, Absent, Keyed}
use Rattle.nr_timers.proofs.PathLemmas.{at-swap}
use Rattle.nr_timers.proofs.ChangeLemmas.{length-TakenBack}

-- a removed entry can be restored: its key is below the limit, and no remaining entry has that key
module _ (old rest : List Entry) (p limit : ℕ) (e : Entry) (le : p ≤ length rest) (is : old ≡ swap (rest ++ e ∷ []) p (length rest)) (h : Keyed old limit) where
  sw : Swapped (at (rest ++ e ∷ [])) (at (swap (rest ++ e ∷ []) p (length rest))) p (length rest)
  sw = let size = length_push rest e in at-swap (rest ++ e ∷ []) p (length rest) (omega arith) (omega arith)

  size_old : length old ≡ length rest + 1
  size_old = ap length is ∙ length-swap (rest ++ e ∷ []) p (length rest) ∙ length_push rest e

  at_p : at old p ≡ e
  at_p = ap (λ xs. at xs p) is ∙ sw.0 ∙ get_or_push rest e blank (length rest) refl

  fits : key e < limit
  fits = let size = size_old in subst (λ (x : Entry). key x < limit) at_p (h.below p (omega arith))

  absent : Absent (key e) rest
  absent k lt same =
      let size = size_old in
      let first : at (rest ++ e ∷ []) k ≡ at rest k = get_or_append_left rest (e ∷ []) blank k lt in
      ⊎_elim
      (
      λ eq. let last : at old (length rest) ≡ at rest k = ap (λ xs. at xs (length rest)) is ∙ sw.1 ∙ ap (at (rest ++ e ∷ [])) (sym eq) ∙ first in
      let one = h.once (length rest) p (omega arith) (omega arith) (ap key last ∙ same ∙ ap key (sym at_p)) in omega arith
      )
      (
      λ other. let here : at old k ≡ at rest k = ap (λ xs. at xs k) is ∙ sw.2 k other (λ eq. omega arith) ∙ first in
      other (h.once k p (omega arith) (omega arith) (ap key here ∙ same ∙ ap key (sym at_p)))
      )
      (cases_eq k p)

module _ (cur mid old : List Entry) (p q limit : ℕ) (e : Entry) (back : RemovedBack p q e cur old) (h : Keyed old limit) (taken : TakenBack p q cur mid) where
  same_mid : back.1 ≡ mid
  same_mid = TakenBack-unique p q cur back.1 mid back.2 taken

  size_mid : length mid ≡ length cur
  size_mid = length-TakenBack cur mid p q taken

  le_mid : p ≤ length mid
  le_mid = let size = size_mid in ⊎_elim (λ x. omega arith) (λ x. omega arith) back.0

  old_is : old ≡ swap (mid ++ e ∷ []) p (length mid)
  old_is = back.3 ∙ ap (λ n. swap (back.1 ++ e ∷ []) p n) (sym size_mid) ∙ ap (λ xs. swap (xs ++ e ∷ []) p (length mid)) same_mid

  pub fits_back : key e < limit
  fits_back = fits old mid p limit e le_mid old_is h

  pub absent_back : Absent (key e) mid
  absent_back = absent old mid p limit e le_mid old_is h
