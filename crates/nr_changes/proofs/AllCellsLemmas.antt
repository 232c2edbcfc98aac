-- The cells that a step changed are exactly the cells that differ.
use Rattle.std.proofs.Common.{◌≡◌, ◌≢◌, ◌↔◌, ℕ, max, ◌<◌, ◌≤◌, Bool, true, false, not, List, [], ◌∷◌, ◌++◌, length, None, Ok, refl, sym, ap, subst, ◌∙◌, inl, inr, arith}
use Rattle.std.specs.Prelude.{Contains, nat_lt, slice_get}
use Rattle.std.specs.List.Sorted.{IsStrictlySortedBy}
use Rattle.std.specs.declared.cmp.Ordering.{Ordering}
use Rattle.std.specs.declared.cmp.Ordering.TheVariants.{Less, Equal, Greater}
use Rattle.std.specs.Ordering.{nat_cmp, ordering_reverse, ordering_then}
use Rattle.std.proofs.lemmas.Cmp.{nat_cmp_total}
use Rattle.std.proofs.lemmas.List.{append-nil}
use Rattle.std.proofs.lemmas.List.Elements.{All-contains, All-from_recursion, Contains-append_left, Contains-append_right}
use Rattle.std.proofs.lemmas.List.Kept.{IsStrictlySortedBy-filter}
use Rattle.std.proofs.lemmas.Option.{slice_get_past}
use Rattle.nr_rev.specs.declared.answer.Answer.{Answer}
use Rattle.nr_rev.specs.declared.cell.Cell.{Cell}
use Rattle.nr_rev.specs.declared.cell_value.CellValue.{CellValue}
use Rattle.nr_rev.specs.declared.cell_value.CellValue.TheVariants.{Number, Time}
use Rattle.nr_rev.specs.declared.descriptor.Descriptor.{Descriptor}
use Rattle.nr_rev.specs.declared.descriptor.DescriptorRow.{DescriptorRow}
use Rattle.nr_rev.specs.declared.step.Step.{Step}
use Rattle.nr_rev.specs.Cell.{cell, descriptor_value, same_value, socket_value, value_or_absent}
use Rattle.nr_rev.specs.CellName.{cell_number, cells_at}
use Rattle.nr_rev.specs.Descriptor.{summary}
use Rattle.nr_rev.specs.Lock.{bit, lock_number}
use Rattle.nr_rev.specs.Socket.{Socket}
use Rattle.nr_rev.specs.Step.{outcome}
use Rattle.nr_rev.specs.World.{World}
use Rattle.nr_rev.proofs.NumberLemmas.{below_of}
use Rattle.nr_changes.specs.Changed.{changed_cells, listing_order, number_or_0}
use Rattle.nr_changes.specs.Changes.{all_cells, differing_cells, most_of, numbered_cells}
use Rattle.nr_changes.proofs.ChangedLemmas.{changed_differs, just_differing}
use Rattle.nr_changes.proofs.ListedLemmas.{Listed, before_higher, in_sorts, sorts_listed}
use Rattle.nr_changes.proofs.MemberLemmas.{here, later, nowhere, here_or_later}
use Rattle.nr_changes.proofs.OrderLemmas.{Before, changed_in_order, joined, rising}

not_below : (a b : ℕ) → nat_lt a b ≡ false → b ≤ a
not_below a b e = grind (arith, e)

-- ---- two sorted lists with the same cells are equal

apart_by : (a b c d : Ordering) → a ≡ ordering_reverse c → b ≡ ordering_reverse d → ordering_then a b ≡ Less → ordering_then c d ≡ Less → ⊥
apart_by a b Less d first second e f = cc
apart_by a b Equal Less first second e f = cc
apart_by a b Equal Equal first second e f = cc
apart_by a b Equal Greater first second e f = cc
apart_by a b Greater d first second e f = cc

-- two cells can't each come before the other
apart : (c d : Cell) → listing_order c d ≡ Less → listing_order d c ≡ Less → ⊥
apart c d e f =
    apart_by (nat_cmp (cell_number c) (cell_number d)) (nat_cmp (number_or_0 c) (number_or_0 d)) (nat_cmp (cell_number d) (cell_number c)) (nat_cmp (number_or_0 d) (number_or_0 c))
    (nat_cmp_total.antisymm (cell_number c) (cell_number d)) (nat_cmp_total.antisymm (number_or_0 c) (number_or_0 d)) e f

less_in : (c : Cell) (cells : List Cell) (d : Cell) → Before listing_order c cells → Contains cells d → listing_order c d ≡ Less
less_in c cells d so at = All-contains (λ x. listing_order c x ≡ Less) cells d (All-from_recursion (λ x. listing_order c x ≡ Less) cells so) at

abbrev Same : List Cell → List Cell → Type 0
Same cs ds = (x : Cell) → (Contains cs x → Contains ds x) × (Contains ds x → Contains cs x)

first_same : (c d : Cell) (cs ds : List Cell) → Before listing_order c cs → Before listing_order d ds → Same (c ∷ cs) (d ∷ ds) → c ≡ d
first_same c d cs ds before_c before_d same =
    elim (here_or_later d ds c ((same c).0 (here c cs))) [
      | inl is ↦ sym is
      | inr behind ↦ elim (here_or_later c cs d ((same d).1 (here d ds))) [
        | inl is ↦ is
        | inr also ↦ absurd (apart d c (less_in d ds c before_d behind) (less_in c cs d before_c also))
      ]
    ]

-- two sorted lists with the same first cell have the same cells after it
behind_first : (c : Cell) (cs ds : List Cell) (x : Cell) → Before listing_order c cs → (Contains (c ∷ cs) x → Contains (c ∷ ds) x) → Contains cs x → Contains ds x
behind_first c cs ds x before both at =
    elim (here_or_later c ds x (both (later c cs x at))) [
      | inl is ↦ (let less = subst (λ y. listing_order c y ≡ Less) (sym is) (less_in c cs x before at) in absurd (apart c c less less))
      | inr there ↦ there
    ]

same_list : (cs ds : List Cell) → IsStrictlySortedBy listing_order cs → IsStrictlySortedBy listing_order ds → Same cs ds → cs ≡ ds
unfolding IsStrictlySortedBy
same_list [] [] so also same = refl
same_list [] (d ∷ ds) so also same = absurd (nowhere d ((same d).1 (here d ds)))
same_list (c ∷ cs) [] so also same = absurd (nowhere c ((same c).0 (here c cs)))
same_list (c ∷ cs) (d ∷ ds) so also same =
    let is : c ≡ d = first_same c d cs ds so.0 also.0 same in
    let alike : Same (c ∷ cs) (c ∷ ds) = subst (λ x. Same (c ∷ cs) (x ∷ ds)) (sym is) same in
    let before : Before listing_order c ds = subst (λ x. Before listing_order x ds) (sym is) also.0 in
    let tails : cs ≡ ds = same_list cs ds so.1 also.1 (λ x. (behind_first c cs ds x so.0 (alike x).0, behind_first c ds cs x before (alike x).1)) in
    ap (λ x. x ∷ cs) is ∙ ap (λ xs. d ∷ xs) tails

-- ---- all cells are in order

abbrev sockets_of : World → World → ℕ
sockets_of w next = most_of (λ (w : World). w.sockets) w next

abbrev descriptors_of : World → World → ℕ
descriptors_of w next = most_of (λ (w : World). w.descriptors) w next

abbrev socket_sorts : List (ℕ → Cell)
socket_sorts = Cell.Lock ∷ Cell.ReadSemaphore ∷ Cell.WriteSemaphore ∷ Cell.Input ∷ Cell.Output ∷ []

abbrev descriptor_sorts : List (ℕ → Cell)
descriptor_sorts = Cell.ReadWord ∷ Cell.WriteWord ∷ Cell.ReadDeadline ∷ Cell.WriteDeadline ∷ Cell.ReadSequence ∷ Cell.WriteSequence ∷ Cell.DescriptorSequence ∷ Cell.Info ∷ []

module _ (w next : World) where
  abbrev shut_part : List Cell
  shut_part = numbered_cells (sockets_of w next) (Cell.Shut ∷ [])

  abbrev from_descriptors : List Cell
  from_descriptors = numbered_cells (descriptors_of w next) descriptor_sorts ++ shut_part

  abbrev from_sockets : List Cell
  from_sockets = numbered_cells (sockets_of w next) socket_sorts ++ from_descriptors

  abbrev from_goroutines : List Cell
  from_goroutines = numbered_cells (most_of (λ (w : World). w.goroutines) w next) (Cell.Goroutine ∷ []) ++ from_sockets

  shut_listed : Listed 20 shut_part
  shut_listed =
      subst (Listed 20) (append-nil shut_part)
      (sorts_listed (sockets_of w next) 20 (Cell.Shut ∷ []) [] (record { shows = λ i. refl; numbered = λ i. refl }, tt) (record { in_order = rising 0 [] refl; least = tt }))

  descriptors_listed : Listed 12 from_descriptors
  descriptors_listed =
      sorts_listed (descriptors_of w next) 12 descriptor_sorts shut_part
      (record { shows = λ i. refl; numbered = λ i. refl }, (record { shows = λ i. refl; numbered = λ i. refl }, (record { shows = λ i. refl; numbered = λ i. refl }, (record { shows = λ i. refl; numbered = λ i. refl }, (record { shows = λ i. refl; numbered = λ i. refl }, (record { shows = λ i. refl; numbered = λ i. refl }, (record { shows = λ i. refl; numbered = λ i. refl }, (record { shows = λ i. refl; numbered = λ i. refl }, tt))))))))
      shut_listed

  sockets_listed : Listed 7 from_sockets
  sockets_listed =
      sorts_listed (sockets_of w next) 7 socket_sorts from_descriptors
      (record { shows = λ i. refl; numbered = λ i. refl }, (record { shows = λ i. refl; numbered = λ i. refl }, (record { shows = λ i. refl; numbered = λ i. refl }, (record { shows = λ i. refl; numbered = λ i. refl }, (record { shows = λ i. refl; numbered = λ i. refl }, tt)))))
      descriptors_listed

  goroutines_listed : Listed 6 from_goroutines
  goroutines_listed =
      sorts_listed (most_of (λ (w : World). w.goroutines) w next) 6 (Cell.Goroutine ∷ []) from_sockets (record { shows = λ i. refl; numbered = λ i. refl }, tt) sockets_listed

  all_in_order : IsStrictlySortedBy listing_order (all_cells w next)
  all_in_order =
      joined (cells_at None) from_goroutines (rising 0 (cells_at None) refl)
      (first Cell.Clock (omega arith), (first Cell.Waiters (omega arith), (first Cell.Timers (omega arith), (first Cell.Firings (omega arith), (first Cell.Least (omega arith), tt)))))
      goroutines_listed.in_order
    where
      first : (c : Cell) → cell_number c < 6 → Before listing_order c from_goroutines
      first c below = before_higher c 6 from_goroutines below goroutines_listed.least

  -- ---- all_cells contains each cell that differs

  there_below : {X : Type 0} (value : X → CellValue) (xs ys : List X) (i : ℕ) → value_or_absent value (slice_get ys i) ≢ value_or_absent value (slice_get xs i) → i < max (length xs) (length ys)
  there_below value xs ys i other = by_test (nat_lt i (max (length xs) (length ys))) refl
    where
      by_test : (b : Bool) → nat_lt i (max (length xs) (length ys)) ≡ b → i < max (length xs) (length ys)
      by_test true e = below_of i (max (length xs) (length ys)) e
      by_test false e =
          let past = not_below i (max (length xs) (length ys)) e in
          let one : length xs ≤ i = omega (arith, past) in
          let another : length ys ≤ i = omega (arith, past) in
          absurd (other (ap (value_or_absent value) (slice_get_past ys i another ∙ sym (slice_get_past xs i one))))

  in_world : (c : Cell) → Contains (cells_at None) c → Contains (all_cells w next) c
  in_world c at = Contains-append_left (cells_at None) from_goroutines c at

  behind_world : (c : Cell) → Contains from_goroutines c → Contains (all_cells w next) c
  behind_world c at = Contains-append_right (cells_at None) from_goroutines c at

  in_goroutines : (g : ℕ) → g < most_of (λ (w : World). w.goroutines) w next → Contains (all_cells w next) (Cell.Goroutine g)
  in_goroutines g below =
      behind_world (Cell.Goroutine g)
      (Contains-append_left (numbered_cells (most_of (λ (w : World). w.goroutines) w next) (Cell.Goroutine ∷ [])) from_sockets (Cell.Goroutine g)
      (in_sorts (most_of (λ (w : World). w.goroutines) w next) (Cell.Goroutine ∷ []) Cell.Goroutine g (0, omega arith, refl) below))

  behind_goroutines : (c : Cell) → Contains from_sockets c → Contains (all_cells w next) c
  behind_goroutines c at =
      behind_world c (Contains-append_right (numbered_cells (most_of (λ (w : World). w.goroutines) w next) (Cell.Goroutine ∷ [])) from_sockets c at)

  in_sockets : (sort : ℕ → Cell) (s : ℕ) → Contains socket_sorts sort → s < sockets_of w next → Contains (all_cells w next) (sort s)
  in_sockets sort s at below =
      behind_goroutines (sort s)
      (Contains-append_left (numbered_cells (sockets_of w next) socket_sorts) from_descriptors (sort s) (in_sorts (sockets_of w next) socket_sorts sort s at below))

  in_descriptors : (sort : ℕ → Cell) (d : ℕ) → Contains descriptor_sorts sort → d < descriptors_of w next → Contains (all_cells w next) (sort d)
  in_descriptors sort d at below =
      behind_goroutines (sort d)
      (Contains-append_right (numbered_cells (sockets_of w next) socket_sorts) from_descriptors (sort d)
      (Contains-append_left (numbered_cells (descriptors_of w next) descriptor_sorts) shut_part (sort d) (in_sorts (descriptors_of w next) descriptor_sorts sort d at below)))

  in_shut : (s : ℕ) → s < sockets_of w next → Contains (all_cells w next) (Cell.Shut s)
  in_shut s below =
      behind_goroutines (Cell.Shut s)
      (Contains-append_right (numbered_cells (sockets_of w next) socket_sorts) from_descriptors (Cell.Shut s)
      (Contains-append_right (numbered_cells (descriptors_of w next) descriptor_sorts) shut_part (Cell.Shut s)
      (in_sorts (sockets_of w next) (Cell.Shut ∷ []) Cell.Shut s (0, omega arith, refl) below)))

  socket_below : (value : Socket → CellValue) (s : ℕ) → socket_value s next value ≢ socket_value s w value → s < sockets_of w next
  socket_below value s other = there_below value w.sockets next.sockets s other

  descriptor_below : (value : Descriptor → CellValue) (d : ℕ) → descriptor_value d next value ≢ descriptor_value d w value → d < descriptors_of w next
  descriptor_below value d other = there_below (λ (row : DescriptorRow). value row.descriptor) w.descriptors next.descriptors d other

  in_all : (c : Cell) → cell next c ≢ cell w c → Contains (all_cells w next) c
  in_all Cell.Clock other = in_world Cell.Clock (0, omega arith, refl)
  in_all Cell.Waiters other = in_world Cell.Waiters (1, omega arith, refl)
  in_all Cell.Timers other = in_world Cell.Timers (2, omega arith, refl)
  in_all Cell.Firings other = in_world Cell.Firings (3, omega arith, refl)
  in_all Cell.Least other = in_world Cell.Least (4, omega arith, refl)
  in_all (Cell.Goroutine g) other = in_goroutines g (there_below CellValue.Status w.goroutines next.goroutines g other)
  in_all (Cell.Lock s) other = in_sockets Cell.Lock s (0, omega arith, refl) (socket_below (λ x. Number (lock_number x.lock)) s other)
  in_all (Cell.ReadSemaphore s) other = in_sockets Cell.ReadSemaphore s (1, omega arith, refl) (socket_below (λ x. Number x.semaphores.read.count) s other)
  in_all (Cell.WriteSemaphore s) other = in_sockets Cell.WriteSemaphore s (2, omega arith, refl) (socket_below (λ x. Number x.semaphores.write.count) s other)
  in_all (Cell.Input s) other = in_sockets Cell.Input s (3, omega arith, refl) (socket_below (λ x. Number (length x.buffers.read.bytes)) s other)
  in_all (Cell.Output s) other = in_sockets Cell.Output s (4, omega arith, refl) (socket_below (λ x. Number (length x.buffers.write.bytes)) s other)
  in_all (Cell.ReadWord d) other = in_descriptors Cell.ReadWord d (0, omega arith, refl) (descriptor_below (λ x. CellValue.WaitWord x.words.read) d other)
  in_all (Cell.WriteWord d) other = in_descriptors Cell.WriteWord d (1, omega arith, refl) (descriptor_below (λ x. CellValue.WaitWord x.words.write) d other)
  in_all (Cell.ReadDeadline d) other = in_descriptors Cell.ReadDeadline d (2, omega arith, refl) (descriptor_below (λ x. Time x.deadlines.read) d other)
  in_all (Cell.WriteDeadline d) other = in_descriptors Cell.WriteDeadline d (3, omega arith, refl) (descriptor_below (λ x. Time x.deadlines.write) d other)
  in_all (Cell.ReadSequence d) other = in_descriptors Cell.ReadSequence d (4, omega arith, refl) (descriptor_below (λ x. Number x.sequences.read) d other)
  in_all (Cell.WriteSequence d) other = in_descriptors Cell.WriteSequence d (5, omega arith, refl) (descriptor_below (λ x. Number x.sequences.write) d other)
  in_all (Cell.DescriptorSequence d) other = in_descriptors Cell.DescriptorSequence d (6, omega arith, refl) (descriptor_below (λ x. Number x.fdseq) d other)
  in_all (Cell.Info d) other = in_descriptors Cell.Info d (7, omega arith, refl) (descriptor_below (λ x. Number (summary x)) d other)
  in_all (Cell.Shut s) other = in_shut s (socket_below (λ x. Number (bit x.shut)) s other)

  -- `differing_cells` contains exactly the cells that differ
  pub differing : (c : Cell) → Contains (differing_cells w next) c ↔ (cell next c ≢ cell w c)
  differing c = just_differing (all_cells w next) w next c (in_all c)

  pub differing_in_order : IsStrictlySortedBy listing_order (differing_cells w next)
  differing_in_order = IsStrictlySortedBy-filter listing_order (λ c. not (same_value (cell next c) (cell w c))) (all_cells w next) all_in_order

-- after a step, `changed_cells` and `differing_cells` are the same list
pub changed_differing : (w : World) (step : Step) (answer : Answer) (next : World) → outcome w step ≡ Ok (answer, next) → changed_cells w step next ≡ differing_cells w next
changed_differing w step answer next is =
    same_list (changed_cells w step next) (differing_cells w next) (changed_in_order w step next) (differing_in_order w next) λ c. (
      λ at. (differing w next c).1 ((changed_differs w step answer next c is).0 at),
      λ at. (changed_differs w step answer next c is).1 ((differing w next c).0 at),
    )
