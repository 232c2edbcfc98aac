-- The list of held references is exact, and a closed socket without an entry has no references.
use Rattle.std.proofs.Common.{◌≡◌, ◌≢◌, ℕ, zero, suc, ◌-◌, ◌<◌, ◌≤◌, Bool, true, false, ◌&&◌, inl, inr, List, [], ◌∷◌, Some, refl, sym, ap, subst, ◌∙◌, arith}
use Rattle.std.specs.Prelude.{All, Contains, IsTrue, ◌==◌, if◌then◌else◌, nat_lt, slice_get}
use Rattle.std.specs.Option.{option_map_or}
use Rattle.std.proofs.lemmas.Bool.{eqb-false, eqb-true}
use Rattle.std.proofs.lemmas.List.Elements.{Contains-append_cases, Contains-append_left, Contains-append_right, Contains-push_cases}
use Rattle.std.proofs.lemmas.Option.{slice_get_within}
use Rattle.nr_rev.specs.declared.cell.Cell.{Cell}
use Rattle.nr_rev.specs.declared.cell_value.CellValue.{CellValue}
use Rattle.nr_rev.proofs.NumberLemmas.{below_of}
use Rattle.nr_rev.specs.Auxiliary.Step.{IsTimely}
use Rattle.nr_rev.specs.Cell.{cell}
use Rattle.nr_rev.specs.Run.{Recording, world_at}
use Rattle.nr_rev.specs.Socket.{Socket}
use Rattle.nr_rev.specs.WellFormed.{WellFormed}
use Rattle.nr_rev.specs.World.{World}
use Rattle.nr_laws.proofs.PositionLemmas.{positions_fit}
use Rattle.nr_suspects.specs.declared.held_reference.HeldReference.{HeldReference}
use Rattle.nr_suspects.specs.declared.holding.Holding.{Holding}
use Rattle.nr_suspects.specs.HeldReferences.{IsHeld, IsListed, held_of_goroutines, held_of_one, held_of_sockets, held_references, is_gone, is_unfreed}
use Rattle.nr_suspects.specs.Holdings.{holding}
use Rattle.nr_suspects.specs.References.{references_at}
use Rattle.nr_suspects.proofs.FindingLemmas.{is_below}
use Rattle.nr_suspects.proofs.HoldingSumLemmas.{sums_at, total}
use Rattle.nr_suspects.proofs.LimitLemmas.{limits_at}
use Rattle.nr_suspects.proofs.LostWakeUpLemmas.{here, nowhere}
use Rattle.nr_suspects.proofs.NotebookLemmas.{not_below}

-- ---- one holding

-- the entry describes how many references to this socket this goroutine holds
record IsOfOne (n s g : ℕ) (status : CellValue) (h : Holding) (held : HeldReference) : Type 0 where
  more : h.given < h.taken
  position : held.position ≡ n
  socket : held.socket ≡ s
  goroutine : held.goroutine ≡ g
  count : held.count ≡ h.taken - h.given
  since : held.since ≡ h.since

of_one : (n s g : ℕ) (status : CellValue) (h : Holding) (held : HeldReference) → Contains (held_of_one n s g status h) held → IsOfOne n s g status h held
of_one n s g status h held at = by (nat_lt h.given h.taken) refl at
  where
    made : HeldReference
    made = record { position = n; socket = s; goroutine = g; count = h.taken - h.given; since = h.since; is_gone = is_gone status }

    by : (b : Bool) → nat_lt h.given h.taken ≡ b → Contains (if b then made ∷ [] else []) held → IsOfOne n s g status h held
    by false less there = absurd (nowhere held there)
    by true less there = elim (Contains-push_cases [] made held there) [
      | inl none ↦ absurd (nowhere held none)
      | inr same ↦ subst (IsOfOne n s g status h) same (record { more = below_of h.given h.taken less; position = refl; socket = refl; goroutine = refl; count = refl; since = refl })
    ]

one_listed : (n s g : ℕ) (status : CellValue) (h : Holding) → h.given < h.taken → (held : HeldReference) × Contains (held_of_one n s g status h) held × (held.socket ≡ s) × (held.goroutine ≡ g)
one_listed n s g status h more =
    let made : HeldReference = record { position = n; socket = s; goroutine = g; count = h.taken - h.given; since = h.since; is_gone = is_gone status } in
    (made, subst (λ (xs : List HeldReference). Contains xs made) (sym (ap (λ (b : Bool). if b then made ∷ [] else []) (is_below h.given h.taken more))) (here made), refl, refl)

-- ---- the references to one socket

module _ (n : ℕ) (w : World) (s : ℕ) (held_goroutine : ℕ → Holding) where
  of_goroutines : (k : ℕ) (held : HeldReference) → Contains (held_of_goroutines n w s held_goroutine k) held → (g : ℕ) × IsOfOne n s g (cell w (Cell.Goroutine g)) (held_goroutine g) held
  of_goroutines zero held at = absurd (nowhere held at)
  of_goroutines (suc k) held at = elim (Contains-append_cases (held_of_goroutines n w s held_goroutine k) (held_of_one n s k (cell w (Cell.Goroutine k)) (held_goroutine k)) held at) [
    | inl before ↦ of_goroutines k held before
    | inr last ↦ (k, of_one n s k (cell w (Cell.Goroutine k)) (held_goroutine k) held last)
  ]

  goroutine_listed : (k g : ℕ) (b : Bool) → (g == k) ≡ b → g < suc k → (held : HeldReference) → Contains (held_of_one n s g (cell w (Cell.Goroutine g)) (held_goroutine g)) held
      → (g < k → Contains (held_of_goroutines n w s held_goroutine k) held) → Contains (held_of_goroutines n w s held_goroutine (suc k)) held
  goroutine_listed k g true same below held at before =
      Contains-append_right (held_of_goroutines n w s held_goroutine k) (held_of_one n s k (cell w (Cell.Goroutine k)) (held_goroutine k)) held
      (subst (λ j. Contains (held_of_one n s j (cell w (Cell.Goroutine j)) (held_goroutine j)) held) (eqb-true g k same) at)
  goroutine_listed k g false apart below held at before =
      let differ = eqb-false g k apart in
      Contains-append_left (held_of_goroutines n w s held_goroutine k) (held_of_one n s k (cell w (Cell.Goroutine k)) (held_goroutine k)) held (before (omega (arith, below, differ)))

  to_goroutines : (k g : ℕ) → g < k → (held : HeldReference) → Contains (held_of_one n s g (cell w (Cell.Goroutine g)) (held_goroutine g)) held → Contains (held_of_goroutines n w s held_goroutine k) held
  to_goroutines zero g below held at = absurd (omega (arith, below))
  to_goroutines (suc k) g below held at = goroutine_listed k g (g == k) refl below held at (λ less. to_goroutines k g less held at)

-- ---- all sockets

module _ (n : ℕ) (w : World) (held_of : ℕ → ℕ → Holding) (goroutines : ℕ) where
  unfreed_only : (s : ℕ) (b : Bool) → is_unfreed w s ≡ b → (held : HeldReference) → Contains (if b then held_of_goroutines n w s (held_of s) goroutines else []) held
      → IsTrue (is_unfreed w s) × ((g : ℕ) × IsOfOne n s g (cell w (Cell.Goroutine g)) (held_of s g) held)
  unfreed_only s true unfreed held at = (unfreed, of_goroutines n w s (held_of s) goroutines held at)
  unfreed_only s false freed held at = absurd (nowhere held at)

  of_sockets : (k : ℕ) (held : HeldReference) → Contains (held_of_sockets n w held_of goroutines k) held
      → (s : ℕ) × IsTrue (is_unfreed w s) × ((g : ℕ) × IsOfOne n s g (cell w (Cell.Goroutine g)) (held_of s g) held)
  of_sockets zero held at = absurd (nowhere held at)
  of_sockets (suc k) held at = elim (Contains-append_cases (held_of_sockets n w held_of goroutines k) (if is_unfreed w k then held_of_goroutines n w k (held_of k) goroutines else []) held at) [
    | inl before ↦ of_sockets k held before
    | inr last ↦ (let found = unfreed_only k (is_unfreed w k) refl held last in (k, found.0, found.1))
  ]

  socket_listed : (k s : ℕ) (b : Bool) → (s == k) ≡ b → s < suc k → (held : HeldReference) → Contains (if is_unfreed w s then held_of_goroutines n w s (held_of s) goroutines else []) held
      → (s < k → Contains (held_of_sockets n w held_of goroutines k) held) → Contains (held_of_sockets n w held_of goroutines (suc k)) held
  socket_listed k s true same below held at before =
      Contains-append_right (held_of_sockets n w held_of goroutines k) (if is_unfreed w k then held_of_goroutines n w k (held_of k) goroutines else []) held
      (subst (λ j. Contains (if is_unfreed w j then held_of_goroutines n w j (held_of j) goroutines else []) held) (eqb-true s k same) at)
  socket_listed k s false apart below held at before =
      let differ = eqb-false s k apart in
      Contains-append_left (held_of_sockets n w held_of goroutines k) (if is_unfreed w k then held_of_goroutines n w k (held_of k) goroutines else []) held (before (omega (arith, below, differ)))

  to_sockets : (k s : ℕ) → s < k → (held : HeldReference) → Contains (if is_unfreed w s then held_of_goroutines n w s (held_of s) goroutines else []) held → Contains (held_of_sockets n w held_of goroutines k) held
  to_sockets zero s below held at = absurd (omega (arith, below))
  to_sockets (suc k) s below held at = socket_listed k s (s == k) refl below held at (λ less. to_sockets k s less held at)

-- ---- the laws

-- each listed reference is held
pub listed_is_held : (r : Recording) (n : ℕ) (held : HeldReference) → Contains (held_references r n) held → IsHeld r n held.socket held.goroutine × IsListed r n held
listed_is_held r n held at =
    let found = of_sockets n (world_at r n) (λ s g. holding r g s n) r.limits.goroutines r.limits.sockets held at in
    by found.0 found.1 found.2.0 found.2.1
  where
    by : (s : ℕ) → IsTrue (is_unfreed (world_at r n) s) → (g : ℕ) → IsOfOne n s g (cell (world_at r n) (Cell.Goroutine g)) (holding r g s n) held → IsHeld r n held.socket held.goroutine × IsListed r n held
    by s unfreed g is =
        let same : holding r held.goroutine held.socket n ≡ holding r g s n = ap (λ x. holding r x held.socket n) is.goroutine ∙ ap (λ x. holding r g x n) is.socket in
        let taken : (holding r held.goroutine held.socket n).taken ≡ (holding r g s n).taken = ap (λ (h : Holding). h.taken) same in
        let given : (holding r held.goroutine held.socket n).given ≡ (holding r g s n).given = ap (λ (h : Holding). h.given) same in
        let more = is.more in
        let count = is.count in (
          record { unfreed = ap (is_unfreed (world_at r n)) is.socket ∙ unfreed; more = omega (arith, taken, given, more) },
          record { position = is.position; count = omega (arith, taken, given, more, count); since = is.since ∙ sym (ap (λ (h : Holding). h.since) same) },
        )

-- each held reference is listed
pub held_is_listed : (r : Recording) (n s g : ℕ) → s < r.limits.sockets → g < r.limits.goroutines → IsHeld r n s g
    → (held : HeldReference) × Contains (held_references r n) held × (held.socket ≡ s) × (held.goroutine ≡ g)
held_is_listed r n s g few below is =
    let w = world_at r n in
    let found = one_listed n s g (cell w (Cell.Goroutine g)) (holding r g s n) is.more in (
      found.0,
      to_sockets n w (λ t k. holding r k t n) r.limits.goroutines r.limits.sockets s few found.0
          (subst (λ (b : Bool). Contains (if b then held_of_goroutines n w s (λ k. holding r k s n) r.limits.goroutines else []) found.0) (sym is.unfreed)
          (to_goroutines n w s (λ k. holding r k s n) r.limits.goroutines g below found.0 found.1)),
      found.2,
      found.3,
    )

-- if no goroutine took more references than it returned, the goroutines together didn't either
nobody_more : (f h : ℕ → ℕ) (k : ℕ) → ((g : ℕ) → g < k → f g ≤ h g) → total f k ≤ total h k
nobody_more f h zero less = omega arith
nobody_more f h (suc k) less =
    let rest = nobody_more f h k (λ g below. less g (omega (arith, below))) in
    let last = less k (omega arith) in
    omega (arith, rest, last)

-- a closed socket without an entry has no references
pub unlisted_has_none : (r : Recording) (n s : ℕ) (socket : Socket) → 0 < r.limits.goroutines → All IsTimely r.steps → slice_get (world_at r n).sockets s ≡ Some socket → socket.lock.closed ≡ true
    → ((held : HeldReference) → Contains (held_references r n) held → held.socket ≢ s) → references_at (world_at r n) s ≡ 0
unlisted_has_none r n s socket room timely at closed unlisted = by (nat_lt 0 socket.lock.references) refl
  where
    w : World
    w = world_at r n

    fits : WellFormed w
    fits = positions_fit r n room timely

    references : references_at w s ≡ socket.lock.references
    references = ap (λ o. option_map_or (λ (x : Socket). x.lock.references) o 0) at

    few : s < r.limits.sockets
    few =
        let within = slice_get_within w.sockets s socket at in
        let limited = fits.sockets_limited in
        let limits = ap (λ l. l.sockets) (limits_at r n) in
        omega (arith, within, limited, limits)

    by : (b : Bool) → nat_lt 0 socket.lock.references ≡ b → references_at w s ≡ 0
    by false none =
        let least : ¬ (0 < socket.lock.references) = not_below 0 socket.lock.references none in
        omega (arith, references, least)
    by true some =
        let unfreed : is_unfreed w s ≡ true = ap (λ o. option_map_or (λ (x : Socket). x.lock.closed && nat_lt 0 x.lock.references) o false) at ∙ ap (λ b. b && nat_lt 0 socket.lock.references) closed ∙ some in
        let sums = sums_at r n s room timely in
        let less = nobody_more (λ g. (holding r g s n).taken) (λ g. (holding r g s n).given) r.limits.goroutines
        (λ g below. not_more (holding r g s n) (λ more. let held = held_is_listed r n s g few below (record { unfreed = unfreed; more = more }) in unlisted held.0 held.1 held.2)) in
        omega (arith, sums, less)
      where
        not_more : (h : Holding) → ¬ (h.given < h.taken) → h.taken ≤ h.given
        not_more h isnt = omega (arith, isnt)
