-- The list of sleepers grows descriptor by descriptor, is exact, and can also be computed from the
-- notebook.
use Rattle.std.proofs.Common.{◌≡◌, inl, inr, ℕ, zero, suc, ◌+◌, ◌-◌, ◌<◌, ◌/◌, ◌%◌, ◌&&◌, Bool, true, false, List, [], ◌∷◌, ◌++◌, length, Option, Some, None, refl, ap, subst, sym, ◌∙◌, add-one, arith}
use Rattle.std.specs.Prelude.{Contains, ◌==◌, if◌then◌else◌, nat_lt, option_map, option_and_then, slice_get}
use Rattle.std.specs.Option.{option_or}
use Rattle.std.proofs.lemmas.Bool.{eqb-false, eqb-true}
use Rattle.std.proofs.lemmas.List.{append_assoc}
use Rattle.std.proofs.lemmas.List.Elements.{Contains-append_left, Contains-append_right, Contains-append_cases, Contains-push_cases}
use Rattle.std.proofs.lemmas.Option.{none-some, same_Some, slice_get_within}
use Rattle.nr_rev.specs.Cell.{cell, value_or_absent}
use Rattle.nr_rev.specs.Descriptor.{check, is_expired, summary}
use Rattle.nr_rev.specs.Lock.{bit}
use Rattle.nr_rev.specs.Run.{Recording, world_at}
use Rattle.nr_rev.specs.Sides.{is_read, of_side}
use Rattle.nr_rev.specs.Socket.{Socket, room_of}
use Rattle.nr_rev.specs.WellFormed.{HasView, HasWaitWord, WellFormed, parked_of}
use Rattle.nr_rev.specs.World.{World}
use Rattle.nr_rev.specs.declared.cell.Cell.{Cell}
use Rattle.nr_rev.specs.declared.cell_value.CellValue.{CellValue}
use Rattle.nr_rev.specs.declared.cell_value.CellValue.TheVariants.{Number, Time}
use Rattle.nr_rev.specs.declared.descriptor.Descriptor.{Descriptor}
use Rattle.nr_rev.specs.declared.descriptor.DescriptorRow.{DescriptorRow}
use Rattle.nr_rev.specs.declared.descriptor.WaitWord.TheVariants.{Nil, Ready, Wait, Held}
use Rattle.nr_rev.specs.declared.sides.Side.{Side}
use Rattle.nr_rev.specs.declared.sides.Side.TheVariants.{Read, Write}
use Rattle.nr_rev.proofs.BitLemmas.{bit_small, test_of}
use Rattle.nr_suspects.specs.declared.account.Account.{Account}
use Rattle.nr_suspects.specs.declared.peer.Peer.{Peer}
use Rattle.nr_suspects.specs.declared.sleeper.Reason.{Reason}
use Rattle.nr_suspects.specs.declared.sleeper.Reason.TheVariants as why
use Rattle.nr_suspects.specs.declared.sleeper.Sleeper.{Sleeper}
use Rattle.nr_suspects.specs.Notices.{has_passed, is_past, word_cell}
use Rattle.nr_suspects.specs.Peers.{peer_of}
use Rattle.nr_suspects.specs.Sleepers.{HasNothing, SleepsOn, code_of_info, number_or_zero, reason, reason_by_cells, reason_kept, reason_of_account, reason_of_code, reason_of_row, reason_of_socket, reason_to_read, reason_to_write, sleeper_at, sleeper_by, sleepers, sleepers_below}
use Rattle.nr_suspects.proofs.LimitLemmas.{limits_at}
use Rattle.nr_suspects.proofs.LostWakeUpLemmas.{held_word, here, nowhere, word_held}
use Rattle.nr_suspects.proofs.ReadinessLemmas.{word_of_cell}

-- ---- listing

-- the list extended by the sleepers of the next descriptor
pub next_listed : (n : ℕ) (w : World) (reasons : ℕ → Side → Option Reason) (d : ℕ) (read write : Option Reason) (before between after : List Sleeper) → read ≡ reasons d Read → write ≡ reasons d Write
    → before ≡ sleepers_below n w reasons d → between ≡ before ++ sleeper_at n w d Read read → after ≡ between ++ sleeper_at n w d Write write → after ≡ sleepers_below n w reasons (d + 1)
next_listed n w reasons d read write before between after reads writes is first second =
    second
    ∙ ap (λ xs. xs ++ sleeper_at n w d Write write) (first ∙ ap (λ xs. xs ++ sleeper_at n w d Read read) is)
    ∙ append_assoc (sleepers_below n w reasons d) (sleeper_at n w d Read read) (sleeper_at n w d Write write)
    ∙ ap (λ x. sleepers_below n w reasons d ++ (sleeper_at n w d Read x ++ sleeper_at n w d Write write)) reads
    ∙ ap (λ x. sleepers_below n w reasons d ++ (sleeper_at n w d Read (reasons d Read) ++ sleeper_at n w d Write x)) writes
    ∙ ap (sleepers_below n w reasons) (sym (add-one d))

-- ---- the list is exact

-- the entry describes this side: the side's word holds the entry's goroutine, and this is the
-- reason to wake it
pub record IsOf (n d : ℕ) (side : Side) (word : CellValue) (why : Option Reason) (s : Sleeper) : Type 0 where
  pub held : word ≡ CellValue.WaitWord (Held s.goroutine)
  pub has_reason : why ≡ Some s.reason
  pub position : s.position ≡ n
  pub descriptor : s.descriptor ≡ d
  pub side_is : s.side ≡ side

from_word : (n d : ℕ) (side : Side) (word : CellValue) (why : Option Reason) (s : Sleeper) → Contains (sleeper_by n d side word why) s → IsOf n d side word why s
from_word n d side (CellValue.WaitWord (Held g)) (Some why) s at =
    let made : Sleeper = record { position = n; goroutine = g; descriptor = d; side = side; reason = why } in
    elim (Contains-push_cases [] made s at) [
      | inl none ↦ absurd (nowhere s none)
      | inr same ↦
          subst (IsOf n d side (CellValue.WaitWord (Held g)) (Some why)) same
          (record { held = refl; has_reason = refl; position = refl; descriptor = refl; side_is = refl })
    ]
from_word n d side (CellValue.WaitWord (Held g)) None s at = absurd (nowhere s at)
from_word n d side (CellValue.WaitWord Nil) why s at = absurd (nowhere s at)
from_word n d side (CellValue.WaitWord Ready) why s at = absurd (nowhere s at)
from_word n d side (CellValue.WaitWord Wait) why s at = absurd (nowhere s at)
from_word n d side CellValue.Absent why s at = absurd (nowhere s at)
from_word n d side (CellValue.Number x) why s at = absurd (nowhere s at)
from_word n d side (CellValue.Time x) why s at = absurd (nowhere s at)
from_word n d side (CellValue.Status x) why s at = absurd (nowhere s at)

module _ (n : ℕ) (w : World) (reasons : ℕ → Side → Option Reason) where
  -- each sleeper found at a side of a descriptor names that descriptor and side
  at_own : (d : ℕ) (side : Side) (s : Sleeper) → Contains (sleeper_at n w d side (reasons d side)) s → Contains (sleeper_at n w s.descriptor s.side (reasons s.descriptor s.side)) s
  at_own d side s at =
      let is = from_word n d side (cell w (word_cell d side)) (reasons d side) s at in
      subst (λ e. Contains (sleeper_at n w e s.side (reasons e s.side)) s) (sym is.descriptor)
      (subst (λ e. Contains (sleeper_at n w d e (reasons d e)) s) (sym is.side_is) at)

  from_all : (k : ℕ) (s : Sleeper) → Contains (sleepers_below n w reasons k) s → Contains (sleeper_at n w s.descriptor s.side (reasons s.descriptor s.side)) s
  from_all zero s at = absurd (nowhere s at)
  from_all (suc k) s at =
      elim (Contains-append_cases (sleepers_below n w reasons k) (sleeper_at n w k Read (reasons k Read) ++ sleeper_at n w k Write (reasons k Write)) s at) [
        | inl before ↦ from_all k s before
        | inr last ↦ elim (Contains-append_cases (sleeper_at n w k Read (reasons k Read)) (sleeper_at n w k Write (reasons k Write)) s last) [
          | inl reads ↦ at_own k Read s reads
          | inr writes ↦ at_own k Write s writes
        ]
      ]

  to_both : (k : ℕ) (side : Side) (s : Sleeper) → Contains (sleeper_at n w k side (reasons k side)) s → Contains (sleeper_at n w k Read (reasons k Read) ++ sleeper_at n w k Write (reasons k Write)) s
  to_both k Read s at = Contains-append_left (sleeper_at n w k Read (reasons k Read)) (sleeper_at n w k Write (reasons k Write)) s at
  to_both k Write s at = Contains-append_right (sleeper_at n w k Read (reasons k Read)) (sleeper_at n w k Write (reasons k Write)) s at

  to_next : (k d : ℕ) (side : Side) (s : Sleeper) (b : Bool) → (d == k) ≡ b → (b ≡ false → Contains (sleepers_below n w reasons k) s) → Contains (sleeper_at n w d side (reasons d side)) s
      → Contains (sleepers_below n w reasons (suc k)) s
  to_next k d side s true e before at =
      Contains-append_right (sleepers_below n w reasons k) (sleeper_at n w k Read (reasons k Read) ++ sleeper_at n w k Write (reasons k Write)) s
      (to_both k side s (subst (λ j. Contains (sleeper_at n w j side (reasons j side)) s) (eqb-true d k e) at))
  to_next k d side s false e before at =
      Contains-append_left (sleepers_below n w reasons k) (sleeper_at n w k Read (reasons k Read) ++ sleeper_at n w k Write (reasons k Write)) s (before refl)

  to_all : (k d : ℕ) (side : Side) (s : Sleeper) → d < k → Contains (sleeper_at n w d side (reasons d side)) s → Contains (sleepers_below n w reasons k) s
  to_all zero d side s below at = absurd (omega (arith, below))
  to_all (suc k) d side s below at =
      to_next k d side s (d == k) refl (λ e. let apart = eqb-false d k e in to_all k d side s (omega (arith, below, apart)) at) at

-- each listed goroutine sleeps although it should have been woken
pub listed_sleeps : (r : Recording) (n : ℕ) (s : Sleeper) → WellFormed (world_at r n) → Contains (sleepers r n) s → SleepsOn (world_at r n) s.goroutine s.descriptor s.side s.reason × (s.position ≡ n)
listed_sleeps r n s fits at =
    let w = world_at r n in
    let d = s.descriptor in
    let side = s.side in
    let is = from_word n d side (cell w (word_cell d side)) (reason w d side) s (from_all n w (reason w) r.limits.descriptors s at) in
    let word : HasWaitWord w.descriptors d side (Held s.goroutine) = held_word (slice_get w.descriptors d) side s.goroutine (sym (word_of_cell w d side) ∙ is.held) in
    (record { parked = (fits.words.held s.goroutine d side).0 word; has_reason = is.has_reason }, is.position)

-- a descriptor at which a goroutine is parked is below the limit
word_within : {X : Type 0} (xs : List DescriptorRow) (f : DescriptorRow → X) (d : ℕ) (x : X) (o : Option DescriptorRow) → slice_get xs d ≡ o → option_map f o ≡ Some x → d < length xs
word_within xs f d x None at is = absurd (none-some _ is)
word_within xs f d x (Some row) at is = slice_get_within xs d row at

-- each goroutine that sleeps although it should have been woken is listed
pub sleeper_is_listed : (r : Recording) (n g d : ℕ) (side : Side) (why : Reason) → WellFormed (world_at r n) → SleepsOn (world_at r n) g d side why
    → Contains (sleepers r n) (record { position = n; goroutine = g; descriptor = d; side = side; reason = why })
sleeper_is_listed r n g d side why fits sleeps =
    let w = world_at r n in
    let s : Sleeper = record { position = n; goroutine = g; descriptor = d; side = side; reason = why } in
    let held : HasWaitWord w.descriptors d side (Held g) = (fits.words.held g d side).1 sleeps.parked in
    let within : d < length w.descriptors = word_within w.descriptors (λ (row : DescriptorRow). of_side side row.descriptor.words) d (Held g) (slice_get w.descriptors d) refl held in
    let limited = fits.descriptors_limited in
    let limit : w.limits.descriptors ≡ r.limits.descriptors = ap (λ l. l.descriptors) (limits_at r n) in
    let word : cell w (word_cell d side) ≡ CellValue.WaitWord (Held g) = word_of_cell w d side ∙ word_held (slice_get w.descriptors d) side g held in
    let listed : sleeper_at n w d side (reason w d side) ≡ s ∷ [] = ap (λ x. sleeper_by n d side x (reason w d side)) word ∙ ap (sleeper_by n d side (CellValue.WaitWord (Held g))) sleeps.has_reason in
    to_all n w (reason w) r.limits.descriptors d side s (omega (arith, within, limited, limit)) (subst (λ xs. Contains xs s) (sym listed) (here s))

-- ---- if none is listed

no_reason : (o : Option Reason) → ((why : Reason) → o ≡ Some why → ⊥) → o ≡ None
no_reason None none = refl
no_reason (Some why) none = absurd (none why refl)

neither : (a b : Option Reason) → option_or a b ≡ None → (a ≡ None) × (b ≡ None)
neither None b e = (refl, e)
neither (Some why) b e = absurd (none-some _ (sym e))

-- the code of a check, from the three conditions that it checks
abbrev code_by : Bool → Bool → Bool → ℕ
code_by closing passed error = if closing then 1 else (if passed then 2 else (if error then 3 else 0))

some_none : {A : Type 0} (why : Reason) → Some why ≡ None → A
some_none why e = absurd (none-some _ (sym e))

-- if the code of a check gives no reason to end a wait, the code is 0
code_is_none : (closing passed error : Bool) → reason_of_code (code_by closing passed error) ≡ None → code_by closing passed error ≡ 0
code_is_none true passed error e = some_none why.Closing e
code_is_none false true error e = some_none why.Deadline e
code_is_none false false true e = some_none why.Error e
code_is_none false false false e = refl

positive : (n : ℕ) → nat_lt 0 (suc n) ≡ true
positive n = grind arith

no_bytes : (bytes : List ℕ) (b : Bool) → reason_to_read (length bytes) b ≡ None → (bytes ≡ []) × (b ≡ false)
no_bytes [] false e = (refl, refl)
no_bytes [] true e = some_none why.End e
no_bytes (x ∷ xs) b e = some_none why.Bytes (sym (ap (λ c. if c then Some why.Bytes else (if b then Some why.End else None)) (positive (length xs))) ∙ e)

no_room : (room : ℕ) (b : Bool) → reason_to_write b room ≡ None → (b ≡ false) × (room ≡ 0)
no_room room true e = some_none why.Shut e
no_room zero false e = (refl, refl)
no_room (suc room) false e = some_none why.Room (sym (ap (λ c. if c then Some why.Room else None) (positive room)) ∙ e)

has_nothing : (side : Side) (socket : Socket) → reason_of_socket side socket ≡ None → HasNothing side socket
has_nothing Read socket none = no_bytes socket.buffers.read.bytes socket.peer_closed none
has_nothing Write socket none = no_room (room_of socket.buffers.write) socket.shut none

-- if no sleeper is listed, there is no reason to wake a parked goroutine
pub none_if_none : (r : Recording) (n g d : ℕ) (side : Side) (row : DescriptorRow) → WellFormed (world_at r n) → sleepers r n ≡ [] → HasView parked_of (world_at r n).goroutines g (d, side)
    → slice_get (world_at r n).descriptors d ≡ Some row
    → (check side row.descriptor ≡ 0) × ((socket : Socket) → slice_get (world_at r n).sockets row.descriptor.socket ≡ Some socket → HasNothing side socket)
none_if_none r n g d side row fits none parked at =
    let w = world_at r n in
    let silent : reason w d side ≡ None =
    no_reason (reason w d side) λ why has.
    nowhere (record { position = n; goroutine = g; descriptor = d; side = side; reason = why })
    (subst (λ xs. Contains xs (record { position = n; goroutine = g; descriptor = d; side = side; reason = why })) none (sleeper_is_listed r n g d side why fits (record { parked = parked; has_reason = has }))) in
    let both = neither (reason_of_code (check side row.descriptor)) (option_and_then (reason_of_socket side) (slice_get w.sockets row.descriptor.socket)) (sym (ap (option_and_then (reason_of_row w side)) at) ∙ silent) in (
      code_is_none row.descriptor.closing (is_expired side row.descriptor) (is_read side && row.descriptor.event_error) both.0,
      λ socket there. has_nothing side socket (sym (ap (option_and_then (reason_of_socket side)) there) ∙ both.1),
    )

-- ---- the reasons, computed from cells and accounts

closing_of_info : (x : Descriptor) → (summary x % 2 == 1) ≡ x.closing
closing_of_info x =
    let c = bit_small x.closing in
    let e = bit_small x.event_error in
    let r = bit_small (is_expired Read x) in
    let w = bit_small (is_expired Write x) in
    test_of x.closing (summary x % 2) (omega (arith, c, e, r, w))

error_of_info : (x : Descriptor) → (summary x / 2 % 2 == 1) ≡ x.event_error
error_of_info x =
    let c = bit_small x.closing in
    let e = bit_small x.event_error in
    let r = bit_small (is_expired Read x) in
    let w = bit_small (is_expired Write x) in
    test_of x.event_error (summary x / 2 % 2) (omega (arith, c, e, r, w))

code_is : (side : Side) (x : Descriptor) → code_of_info side (summary x) (is_expired side x) ≡ check side x
code_is side x =
    ap (λ b. if b then 1 else (if is_expired side x then 2 else (if is_read side && (summary x / 2 % 2 == 1) then 3 else 0))) (closing_of_info x)
    ∙ ap (λ b. if x.closing then 1 else (if is_expired side x then 2 else (if is_read side && b then 3 else 0))) (error_of_info x)

passed_is : (w : World) (d : ℕ) (side : Side) (row : DescriptorRow) → slice_get w.descriptors d ≡ Some row → has_passed w d side ≡ is_expired side row.descriptor
passed_is w d Read row at = ap (λ o. is_past (value_or_absent (λ (x : DescriptorRow). Time x.descriptor.deadlines.read) o)) at
passed_is w d Write row at = ap (λ o. is_past (value_or_absent (λ (x : DescriptorRow). Time x.descriptor.deadlines.write) o)) at

shut_is : (b : Bool) → (bit b == 1) ≡ b
shut_is true = refl
shut_is false = refl

socket_shows : (w : World) (s : ℕ) (side : Side) (socket : Socket) → slice_get w.sockets s ≡ Some socket → reason_by_cells w s side (peer_of socket) ≡ reason_of_socket side socket
socket_shows w s Read socket at = ap (λ o. reason_to_read (number_or_zero (value_or_absent (λ (x : Socket). Number (length x.buffers.read.bytes)) o)) socket.peer_closed) at
socket_shows w s Write socket at =
    ap (λ o. reason_to_write (number_or_zero (value_or_absent (λ (x : Socket). Number (bit x.shut)) o) == 1) (socket.buffers.write.capacity - number_or_zero (cell w (Cell.Output s)))) at
    ∙ ap (λ b. reason_to_write b (socket.buffers.write.capacity - number_or_zero (cell w (Cell.Output s)))) (shut_is socket.shut)
    ∙ ap (λ o. reason_to_write socket.shut (socket.buffers.write.capacity - number_or_zero (value_or_absent (λ (x : Socket). Number (length x.buffers.write.bytes)) o))) at

sockets_show : (w : World) (s : ℕ) (side : Side) (o : Option Socket) → slice_get w.sockets s ≡ o → option_and_then (reason_by_cells w s side) (option_map peer_of o) ≡ option_and_then (reason_of_socket side) o
sockets_show w s side None at = refl
sockets_show w s side (Some socket) at = socket_shows w s side socket at

-- Two computations of the reason to wake a goroutine agree: one uses the descriptor's account and
-- the sockets' other ends, the other the descriptor's row.
account_shows : (w : World) (d : ℕ) (side : Side) (peers : ℕ → Option Peer) (a : Option Account) (o : Option DescriptorRow) → slice_get w.descriptors d ≡ o → ((s : ℕ) → peers s ≡ option_map peer_of (slice_get w.sockets s))
    → option_map (λ (y : Account). y.socket) a ≡ option_map (λ (row : DescriptorRow). row.descriptor.socket) o → option_and_then (reason_of_account w d side peers) a ≡ option_and_then (reason_of_row w side) o
account_shows w d side peers None None at ends same = refl
account_shows w d side peers None (Some row) at ends same = absurd (none-some _ same)
account_shows w d side peers (Some a) None at ends same = absurd (none-some _ (sym same))
account_shows w d side peers (Some a) (Some row) at ends same =
    let s : a.socket ≡ row.descriptor.socket = same_Some _ _ same in
    let info : number_or_zero (cell w (Cell.Info d)) ≡ summary row.descriptor = ap (λ o. number_or_zero (value_or_absent (λ (x : DescriptorRow). Number (summary x.descriptor)) o)) at in
    let code : code_of_info side (number_or_zero (cell w (Cell.Info d))) (has_passed w d side) ≡ check side row.descriptor =
    ap (λ k. code_of_info side k (has_passed w d side)) info ∙ ap (code_of_info side (summary row.descriptor)) (passed_is w d side row at) ∙ code_is side row.descriptor in
    ap (λ k. option_or (reason_of_code k) (option_and_then (reason_by_cells w a.socket side) (peers a.socket))) code
    ∙ ap (λ k. option_or (reason_of_code (check side row.descriptor)) (option_and_then (reason_by_cells w k side) (peers k))) s
    ∙ ap (λ p. option_or (reason_of_code (check side row.descriptor)) (option_and_then (reason_by_cells w row.descriptor.socket side) p)) (ends row.descriptor.socket)
    ∙ ap (option_or (reason_of_code (check side row.descriptor))) (sockets_show w row.descriptor.socket side (slice_get w.sockets row.descriptor.socket) refl)

pub kept_shows : (w : World) (kept : ℕ → Option Account) (peers : ℕ → Option Peer) (d : ℕ) (side : Side) → ((s : ℕ) → peers s ≡ option_map peer_of (slice_get w.sockets s))
    → option_map (λ (y : Account). y.socket) (kept d) ≡ option_map (λ (row : DescriptorRow). row.descriptor.socket) (slice_get w.descriptors d) → reason_kept w kept peers d side ≡ reason w d side
kept_shows w kept peers d side ends same = account_shows w d side peers (kept d) (slice_get w.descriptors d) refl ends same

-- if the reasons at each side are equal, so are the lists of sleepers
pub sleepers_same : (n : ℕ) (w : World) (f g : ℕ → Side → Option Reason) (k : ℕ) → ((d : ℕ) (side : Side) → d < k → f d side ≡ g d side) → sleepers_below n w f k ≡ sleepers_below n w g k
sleepers_same n w f g zero same = refl
sleepers_same n w f g (suc k) same =
    ap (λ xs. xs ++ (sleeper_at n w k Read (f k Read) ++ sleeper_at n w k Write (f k Write))) (sleepers_same n w f g k (λ d side below. same d side (omega (arith, below))))
    ∙ ap (λ x. sleepers_below n w g k ++ (sleeper_at n w k Read x ++ sleeper_at n w k Write (f k Write))) (same k Read (omega arith))
    ∙ ap (λ x. sleepers_below n w g k ++ (sleeper_at n w k Read (g k Read) ++ sleeper_at n w k Write x)) (same k Write (omega arith))
