-- TimersFit still holds after a firing is removed, or after a timer goes off and becomes a firing.
use Rattle.std.proofs.Common.{◌≡◌, ◌≢◌, ℕ, zero, suc, Bool, true, false, List, [], ◌∷◌, ◌++◌, Option, Some, None, ◌⊎◌, inl, inr, refl, sym, ap, subst, ◌∙◌, set, length, arith}
use Rattle.std.proofs.lemmas.Option.{none-some}
use Rattle.std.specs.Prelude.{slice_get, if◌then◌else◌, option_map, remove}
use Rattle.std.specs.Option.{option_and_then}
use Rattle.nr_rev.specs.declared.sides.Side.{Side}
use Rattle.nr_rev.specs.declared.sides.Side.TheVariants.{Read, Write}
use Rattle.nr_rev.specs.Sides.{of_side, with_side}
use Rattle.nr_rev.specs.declared.descriptor.DescriptorRow.{DescriptorRow}
use Rattle.nr_rev.specs.WellFormed.{TimersFit, RowFits, EntryFits, FiringFits}
use Rattle.nr_rev.proofs.ListUpdateLemmas.{slice_get-set_unseen, slice_get-set_cases, slice_get-push_cases, slice_get-set_all, slice_get-set_found}
use Rattle.nr_rev.specs.declared.timer.TimerFunction.{TimerFunction}
use Rattle.nr_rev.specs.Sides.{side_of_function}
use Rattle.nr_rev.specs.declared.timer.Timer.{Timer}
use Rattle.nr_rev.specs.Timer.{IsTime}
use Rattle.nr_rev.specs.declared.timer.Entry.{Entry}
use Rattle.nr_rev.specs.declared.descriptor.Descriptor.{Descriptor}
use Rattle.nr_rev.specs.Descriptor.{timer_function, is_combo, is_positive}
use Rattle.nr_laws.proofs.TimerUpdateLemmas.{covered, combo_positive, combo_of_both, due_of_each}
use Rattle.nr_rev.proofs.SideLemmas.{other_side, of_side-with_side_same, of_side-with_side_other}
use Rattle.nr_rev.specs.WellFormed.{TimerPlace, ArmedAt, FiringAt, timer_at, armed_at, IsCurrent}

-- each entry had a place of its own before the change
pub TimersFit-moved : (rows rows' : List DescriptorRow) (firings firings' : List Entry) (n : ℕ) (Was : TimerPlace → TimerPlace → Type 0)
    → ((p : TimerPlace) (e : Entry) → timer_at rows' firings' p ≡ Some e → (q : TimerPlace) × Was p q × (timer_at rows firings q ≡ Some e))
    → ((p p' q q' : TimerPlace) → Was p q → Was p' q' → q ≡ q' → p ≡ p') → ((p : TimerPlace) (e : Entry) → timer_at rows' firings' p ≡ Some e → IsCurrent rows' e → IsCurrent rows e)
    → ((d : ℕ) (row : DescriptorRow) → slice_get rows' d ≡ Some row → RowFits row)
    → ((i : ℕ) (firing : Entry) → slice_get firings' i ≡ Some firing → (row : DescriptorRow) × (slice_get rows' firing.descriptor ≡ Some row) × FiringFits row.descriptor firing)
    → TimersFit rows firings n → TimersFit rows' firings' n
TimersFit-moved rows rows' firings firings' n Was was once current rows_fit firings_fit h =
    record {
      entries_fit = rows_fit;
      firings_fit = firings_fit;
      one_current = λ p q e f at_p at_q same_d same_side e_now f_now.
          let a = was p e at_p in
          let b = was q f at_q in
          once p q a.0 b.0 a.1 b.1 (h.one_current a.0 b.0 e f a.2 b.2 same_d same_side (current p e at_p e_now) (current q f at_q f_now));
      armed_before = λ p e at_p. let a = was p e at_p in h.armed_before a.0 e a.2;
      armed_once = λ p q e f at_p at_q same.
          let a = was p e at_p in
          let b = was q f at_q in
          once p q a.0 b.0 a.1 b.1 (h.armed_once a.0 b.0 e f a.2 b.2 same);
      numbered = h.numbered;
      in_range = h.in_range;
    }

-- the original index of the item at j in a list from which the item at i was removed
abbrev pub skip : ℕ → ℕ → ℕ
skip zero j = suc j
skip (suc i) zero = zero
skip (suc i) (suc j) = suc (skip i j)

pub slice_get-remove : {X : Type 0} (xs : List X) (i j : ℕ) (x : X) → slice_get xs i ≡ Some x → slice_get (remove xs i) j ≡ slice_get xs (skip i j)
slice_get-remove [] i j x at = cc
slice_get-remove (y ∷ xs) zero j x at = refl
slice_get-remove (y ∷ xs) (suc i) zero x at = refl
slice_get-remove (y ∷ xs) (suc i) (suc j) x at = slice_get-remove xs i j x at

pub skip_apart : (i j : ℕ) → skip i j ≢ i
skip_apart zero j e = omega arith
skip_apart (suc i) zero e = omega arith
skip_apart (suc i) (suc j) e = skip_apart i j (omega arith)

skip_once : (i j k : ℕ) → skip i j ≡ skip i k → j ≡ k
skip_once zero j k e = omega arith
skip_once (suc i) zero zero e = refl
skip_once (suc i) zero (suc k) e = absurd (omega arith)
skip_once (suc i) (suc j) zero e = absurd (omega arith)
skip_once (suc i) (suc j) (suc k) e = ap suc (skip_once i j k (omega arith))

-- the i-th firing is removed
abbrev WasBefore : ℕ → TimerPlace → TimerPlace → Type 0
WasBefore i (ArmedAt d side) q = q ≡ ArmedAt d side
WasBefore i (FiringAt j) q = q ≡ FiringAt (skip i j)

pub same_firing : (j k : ℕ) → FiringAt j ≡ FiringAt k → j ≡ k
same_firing j k e = cc

once_before : (i : ℕ) (p p' q q' : TimerPlace) → WasBefore i p q → WasBefore i p' q' → q ≡ q' → p ≡ p'
once_before i (ArmedAt d side) (ArmedAt k s) q q' a b e = sym a ∙ e ∙ b
once_before i (ArmedAt d side) (FiringAt k) q q' a b e = let f : ArmedAt d side ≡ FiringAt (skip i k) = sym a ∙ e ∙ b in cc
once_before i (FiringAt j) (ArmedAt k s) q q' a b e = let f : FiringAt (skip i j) ≡ ArmedAt k s = sym a ∙ e ∙ b in cc
once_before i (FiringAt j) (FiringAt k) q q' a b e = ap FiringAt (skip_once i j k (same_firing _ _ (sym a ∙ e ∙ b)))

pub TimersFit-removed : (rows : List DescriptorRow) (firings : List Entry) (n i : ℕ) (e : Entry) → slice_get firings i ≡ Some e → TimersFit rows firings n → TimersFit rows (remove firings i) n
TimersFit-removed rows firings n i e at h =
    TimersFit-moved rows rows firings (remove firings i) n (WasBefore i) was (once_before i) (λ p e is now. now) h.entries_fit
    (λ j f is. h.firings_fit (skip i j) f (sym (slice_get-remove firings i j e at) ∙ is)) h
  where
    was : (p : TimerPlace) (f : Entry) → timer_at rows (remove firings i) p ≡ Some f → (q : TimerPlace) × WasBefore i p q × (timer_at rows firings q ≡ Some f)
    was (ArmedAt d side) f is = (ArmedAt d side, refl, is)
    was (FiringAt j) f is = (FiringAt (skip i j), refl, sym (slice_get-remove firings i j e at) ∙ is)

-- the entry armed at a side of d becomes the last firing
abbrev WasPopped : ℕ → ℕ → Side → TimerPlace → TimerPlace → Type 0
WasPopped n d side (ArmedAt k s) q = (q ≡ ArmedAt k s) × ((k ≡ d) × (s ≡ side) → ⊥)
WasPopped n d side (FiringAt j) q = (q ≡ FiringAt j) ⊎ ((j ≡ n) × (q ≡ ArmedAt d side))

same_place : (k d : ℕ) (s side : Side) → ArmedAt k s ≡ ArmedAt d side → (k ≡ d) × (s ≡ side)
same_place k d s side e = (cc, cc)

once_popped : (n d : ℕ) (side : Side) (p p' q q' : TimerPlace) → WasPopped n d side p q → WasPopped n d side p' q' → q ≡ q' → p ≡ p'
once_popped n d side (ArmedAt k s) (ArmedAt l t) q q' a b e = sym a.0 ∙ e ∙ b.0
once_popped n d side (ArmedAt k s) (FiringAt j) q q' a (inl b) e = let f : ArmedAt k s ≡ FiringAt j = sym a.0 ∙ e ∙ b in cc
once_popped n d side (ArmedAt k s) (FiringAt j) q q' a (inr b) e = absurd (a.1 (same_place k d s side (sym a.0 ∙ e ∙ b.1)))
once_popped n d side (FiringAt j) (ArmedAt k s) q q' (inl a) b e = let f : FiringAt j ≡ ArmedAt k s = sym a ∙ e ∙ b.0 in cc
once_popped n d side (FiringAt j) (ArmedAt k s) q q' (inr a) b e = absurd (b.1 (same_place k d s side (sym b.0 ∙ sym e ∙ a.1)))
once_popped n d side (FiringAt j) (FiringAt k) q q' (inl a) (inl b) e = sym a ∙ e ∙ b
once_popped n d side (FiringAt j) (FiringAt k) q q' (inl a) (inr b) e = let f : FiringAt j ≡ ArmedAt d side = sym a ∙ e ∙ b.1 in cc
once_popped n d side (FiringAt j) (FiringAt k) q q' (inr a) (inl b) e = let f : ArmedAt d side ≡ FiringAt k = sym a.1 ∙ e ∙ b in cc
once_popped n d side (FiringAt j) (FiringAt k) q q' (inr a) (inr b) e = ap FiringAt (a.0 ∙ sym b.0)

abbrev pub unarmed : DescriptorRow → Side → DescriptorRow
unarmed row side = record row { timers = with_side side None row.timers }

RowFits-unarmed : (row : DescriptorRow) (side : Side) → RowFits row → RowFits (unarmed row side)
RowFits-unarmed row side h =
    record {
      entries = λ s timer is.
          elim (other_side s side) [
            | inl same ↦ absurd (none-some _ (sym (ap (λ x. of_side x (with_side side None row.timers)) same ∙ of_side-with_side_same side None row.timers) ∙ is))
            | inr apart ↦ h.entries s timer (sym (of_side-with_side_other s side None row.timers apart) ∙ is)
          ];
      combo = h.combo;
      closing = h.closing;
      sequences = h.sequences;
      fdseq = h.fdseq;
      times = h.times;
    }

function_side : (side : Side) (d : Descriptor) → side ≡ side_of_function (timer_function side d)
function_side Write d = refl
function_side Read d = go (is_combo d)
  where
    go : (b : Bool) → Read ≡ side_of_function (if b then TimerFunction.Both else TimerFunction.Read)
    go true = refl
    go false = refl

-- an entry that leaves the heap becomes a firing that fits
FiringFits-popped : (row : DescriptorRow) (e : Entry) → RowFits row → of_side e.side row.timers ≡ Some e.timer → FiringFits row.descriptor e
FiringFits-popped row e h is =
    let fits : EntryFits row.descriptor e.side e.timer = h.entries e.side e.timer is in
    record {
      side = function_side e.side row.descriptor ∙ sym (ap side_of_function fits.function);
      sequence = rw fits.sequence (omega arith);
      due = subst IsTime (sym fits.due) (h.times e.side);
      current = λ now.
          record {
            positive = λ s covers.
                elim (covered e.timer.function s e.side (function_side e.side row.descriptor ∙ sym (ap side_of_function fits.function)) covers) [
                  | inl own ↦ ap is_positive (ap (λ x. of_side x row.descriptor.deadlines) own ∙ sym fits.due) ∙ is_it (is_positive e.timer.due) fits.positive
                  | inr is_both ↦ combo_positive row.descriptor (combo_of_both e.side row.descriptor (sym fits.function ∙ is_both)) s
                ];
            due = λ s covers.
                due_of_each e.timer.due e.timer.function s e.side row.descriptor fits.due (function_side e.side row.descriptor ∙ sym (ap side_of_function fits.function)) covers
                (λ is_both. combo_of_both e.side row.descriptor (sym fits.function ∙ is_both));
            running = fits.running;
            function = fits.function;
          };
    }
  where
    is_it : (b : Bool) → b ≡ true → b ≡ true
    is_it b e = e

pub TimersFit-popped : (rows : List DescriptorRow) (firings : List Entry) (n : ℕ) (row : DescriptorRow) (e : Entry) → slice_get rows e.descriptor ≡ Some row → of_side e.side row.timers ≡ Some e.timer
    → TimersFit rows firings n → TimersFit (set rows e.descriptor (unarmed row e.side)) (firings ++ e ∷ []) n
TimersFit-popped rows firings n row e at is h =
    TimersFit-moved rows (set rows e.descriptor (unarmed row e.side)) firings (firings ++ e ∷ []) n (WasPopped (length firings) e.descriptor e.side) was
    (once_popped (length firings) e.descriptor e.side)
    (λ p f f_is now. sym (slice_get-set_unseen (option_map (λ (r : DescriptorRow). of_side f.side r.descriptor.sequences)) rows e.descriptor row (unarmed row e.side) f.descriptor at refl) ∙ now)
    (slice_get-set_all RowFits rows e.descriptor row (unarmed row e.side) at (RowFits-unarmed row e.side (h.entries_fit e.descriptor row at)) h.entries_fit)
    (λ i f f_is.
    elim (slice_get-push_cases firings e f i f_is) [
      | inl old ↦ let o = h.firings_fit i f old in still_fits f o.0 o.1 o.2
      | inr new ↦
          subst (λ (f : Entry). (r : DescriptorRow) × (slice_get (set rows e.descriptor (unarmed row e.side)) f.descriptor ≡ Some r) × FiringFits r.descriptor f) new.1
          (still_fits e row at (FiringFits-popped row e (h.entries_fit e.descriptor row at) is))
    ])
    h
  where
    still_fits : (f : Entry) (r : DescriptorRow) → slice_get rows f.descriptor ≡ Some r → FiringFits r.descriptor f
        → (r : DescriptorRow) × (slice_get (set rows e.descriptor (unarmed row e.side)) f.descriptor ≡ Some r) × FiringFits r.descriptor f
    still_fits f r r_is fits =
        slice_get-set_found (λ (r : DescriptorRow). FiringFits r.descriptor f) rows e.descriptor row (unarmed row e.side) f.descriptor r at (λ _ x. x) r_is fits

    was_armed : (k : ℕ) (s : Side) (f : Entry) → option_and_then (armed_at k s) (slice_get (set rows e.descriptor (unarmed row e.side)) k) ≡ Some f
        → (q : TimerPlace) × WasPopped (length firings) e.descriptor e.side (ArmedAt k s) q × (timer_at rows firings q ≡ Some f)
    was_armed k s f f_is =
        elim (slice_get-set_cases rows e.descriptor row (unarmed row e.side) k at) [
          | inl here ↦
              elim (other_side s e.side) [
                | inl same ↦
                    absurd (none-some _
                    (sym (ap (option_and_then (armed_at k s)) here.1 ∙ ap (λ (t : Option Timer). option_map (λ (t : Timer). record { descriptor = k; side = s; timer = t }) t)
                    (ap (λ x. of_side x (with_side e.side None row.timers)) same ∙ of_side-with_side_same e.side None row.timers))
                    ∙ f_is))
                | inr apart ↦ (
                  ArmedAt k s,
                  (refl, λ both. apart both.1),
                  ap (option_and_then (armed_at k s)) (ap (slice_get rows) here.0 ∙ at)
                      ∙ ap (λ (t : Option Timer). option_map (λ (t : Timer). record { descriptor = k; side = s; timer = t }) t) (sym (of_side-with_side_other s e.side None row.timers apart))
                      ∙ sym (ap (option_and_then (armed_at k s)) here.1)
                      ∙ f_is,
                )
              ]
          | inr there ↦ (ArmedAt k s, (refl, λ both. there.0 both.0), sym (ap (option_and_then (armed_at k s)) there.1) ∙ f_is)
        ]

    was : (p : TimerPlace) (f : Entry) → timer_at (set rows e.descriptor (unarmed row e.side)) (firings ++ e ∷ []) p ≡ Some f
        → (q : TimerPlace) × WasPopped (length firings) e.descriptor e.side p q × (timer_at rows firings q ≡ Some f)
    was (ArmedAt k s) f f_is = was_armed k s f f_is
    was (FiringAt j) f f_is =
        elim (slice_get-push_cases firings e f j f_is) [
          | inl old ↦ (FiringAt j, inl refl, old)
          | inr new ↦ (
            ArmedAt e.descriptor e.side,
            inr (new.0, refl),
            ap (option_and_then (armed_at e.descriptor e.side)) at ∙ ap (option_map (λ (t : Timer). record { descriptor = e.descriptor; side = e.side; timer = t })) is ∙ ap Some new.1,
          )
        ]
