-- The notebook is correct at each position of a recording.
use Rattle.std.proofs.Common.{◌≡◌, ℕ, zero, suc, ◌+◌, ◌-◌, ◌^◌, ◌<◌, ◌≤◌, ◌&&◌, Bool, true, false, List, [], ◌++◌, length, replicate, Option, Some, None, Ok, refl, sym, ap, subst, ◌∙◌, arith, add-one}
use Rattle.std.specs.Prelude.{◌==◌, if◌then◌else◌, nat_lt, option_and_then, option_map, slice_get}
use Rattle.std.specs.Option.{option_map_or}
use Rattle.std.proofs.lemmas.List.{length-replicate}
use Rattle.std.proofs.lemmas.Option.{same_Some, slice_get_within}
use Rattle.nr_rev.specs.Run.{Recording, world_at}
use Rattle.nr_rev.specs.Step.{outcome}
use Rattle.nr_rev.specs.World.{World}
use Rattle.nr_rev.specs.declared.answer.Answer.{Answer}
use Rattle.nr_rev.specs.declared.step.Step.{Step}
use Rattle.nr_suspects.specs.declared.account.Account.{Account}
use Rattle.nr_suspects.specs.declared.holding.Holding.{Holding}
use Rattle.nr_suspects.specs.declared.notice.Notice.{Notice}
use Rattle.nr_suspects.specs.declared.notice.Notice.TheVariants as notices
use Rattle.nr_suspects.specs.Accounts.{AreAccounts, IsNoted, kept_of}
use Rattle.nr_suspects.specs.Debts.{account, account_after}
use Rattle.nr_suspects.specs.declared.deadline_finding.Consequence.TheVariants.{EndedCall}
use Rattle.nr_suspects.specs.DeadlineFindings.{account_within, deadline_findings, deadline_lines, finding, findings_at, passed_at, taken_back_at}
use Rattle.nr_suspects.specs.Holdings.{AreHeld, AreHoldings, CanCount, holding_of, holding, holding_after, none_held, place}
use Rattle.nr_suspects.specs.Notices.{notice, notice_at, notice_of}
use Rattle.nr_rev.proofs.NumberLemmas.{below_of}
use Rattle.nr_rev.specs.Cell.{cell}
use Rattle.nr_rev.specs.declared.cell.Cell.{Cell}
use Rattle.nr_rev.specs.declared.sides.Side.TheVariants.{Read, Write}
use Rattle.nr_suspects.specs.HeldReferences.{held_of_sockets, held_of_goroutines, held_of_one, held_lines, held_references, is_unfreed}
use Rattle.nr_suspects.specs.LostWakeUps.{lost_at, lost_below, lost_lines, lost_wake_ups}
use Rattle.nr_rev.specs.Socket.{Socket}
use Rattle.nr_rev.specs.WellFormed.{WellFormed}
use Rattle.nr_suspects.specs.declared.peer.Peer.{Peer}
use Rattle.nr_suspects.specs.Peers.{ArePeers, ArePeersNoted, peer, peer_after, peer_in, peer_of}
use Rattle.nr_suspects.specs.Sleepers.{reason, reason_kept, sleeper_lines, sleepers, sleepers_below}
use Rattle.nr_suspects.proofs.LimitLemmas.{limits_at}
use Rattle.nr_suspects.proofs.OpeningLemmas.{socket_is}
use Rattle.nr_suspects.proofs.PeerLemmas.{peer_is}
use Rattle.nr_suspects.proofs.SleeperLemmas.{kept_shows, sleepers_same}
use Rattle.nr_suspects.specs.Suspects.{AreFound, AreNotes, Notes, found_lines, suspect_lines}
use Rattle.nr_suspects.specs.declared.suspects.Suspects.{Suspects}

-- the notice of the step after a position
pub notice_here : (r : Recording) (n : ℕ) (step : Step) (answer : Answer) (next : World) → slice_get r.steps n ≡ Some step → outcome (world_at r n) step ≡ Ok (answer, next)
    → notice_at r n ≡ notice (world_at r n) step answer next
notice_here r n step answer next read applies =
    ap (λ o. option_map_or (λ s. notice_of (world_at r n) s (outcome (world_at r n) s)) o notices.Nothing) read ∙ ap (notice_of (world_at r n) step) applies

pub not_below : (a b : ℕ) → nat_lt a b ≡ false → ¬ (a < b)
not_below a b h below = grind (arith, h, below)

-- ---- before the first step

get_replicate : {X : Type 0} (n i : ℕ) (x : X) → i < n → slice_get (replicate n x) i ≡ Some x
get_replicate zero i x below = absurd (omega (arith, below))
get_replicate (suc n) zero x below = refl
get_replicate (suc n) (suc i) x below = get_replicate n i x (omega (arith, below))

one_of_these : {X : Type 0} (n i : ℕ) (x y : X) → slice_get (replicate n x) i ≡ Some y → y ≡ x
one_of_these n i x y is =
    let within = slice_get_within (replicate n x) i y is in
    let count = length-replicate n x in
    same_Some y x (sym is ∙ get_replicate n i x (omega (arith, within, count)))

row_of_these : (S G s g : ℕ) (h : Holding) (o : Option (List Holding)) → slice_get (replicate S (replicate G none_held)) s ≡ o → option_and_then (λ row. slice_get row g) o ≡ Some h → h ≡ none_held
row_of_these S G s g h None at is = cc
row_of_these S G s g h (Some row) at is =
    one_of_these G g none_held h (ap (λ (x : List Holding). slice_get x g) (sym (one_of_these S s (replicate G none_held) row at)) ∙ is)

pub notes_first : (r : Recording) (notes : Notes) → notes.accounts ≡ replicate r.limits.descriptors None → notes.peers ≡ replicate r.limits.sockets None → notes.rows ≡ replicate r.limits.sockets (replicate r.limits.goroutines none_held)
    → notes.deadlines ≡ [] → AreNotes r 0 notes
notes_first r notes accounts peers rows deadlines =
    record {
      accounts = subst (AreAccounts r 0) (sym accounts) (record { places = length-replicate r.limits.descriptors None; each = λ d below. get_replicate r.limits.descriptors d None below });
      peers = subst (ArePeers r 0) (sym peers) (record { places = length-replicate r.limits.sockets None; each = λ s below. get_replicate r.limits.sockets s None below });
      holdings = subst (AreHoldings r 0) (sym rows)
          (record {
            there = λ s g below within.
                ap (option_and_then (λ (row : List Holding). slice_get row g)) (get_replicate r.limits.sockets s (replicate r.limits.goroutines none_held) below)
                ∙ get_replicate r.limits.goroutines g none_held within;
            right = λ s g h is. row_of_these r.limits.sockets r.limits.goroutines s g h (slice_get (replicate r.limits.sockets (replicate r.limits.goroutines none_held)) s) refl is;
          });
      deadlines = deadlines;
    }

-- ---- after the next step

-- the accounts are those of the recording, within its limits
kept_within : (r : Recording) (n d : ℕ) (accounts : List (Option Account)) → AreAccounts r n accounts → kept_of accounts d ≡ account_within r n d
kept_within r n d accounts are = by (nat_lt d r.limits.descriptors) refl (slice_get accounts d) refl
  where
    by : (b : Bool) → nat_lt d r.limits.descriptors ≡ b → (o : Option (Option Account)) → slice_get accounts d ≡ o → option_and_then (λ a. a) o ≡ (if b then account r d n else None)
    by true below o at = ap (option_and_then (λ a. a)) (sym at ∙ are.each d (below_of d r.limits.descriptors below))
    by false above None at = refl
    by false above (Some a) at =
        let within = slice_get_within accounts d a at in
        let places = are.places in
        absurd (not_below d r.limits.descriptors above (omega (arith, within, places)))

findings_same : (n : ℕ) (x : Notice) (f g : ℕ → Option Account) → ((d : ℕ) → f d ≡ g d) → findings_at n x f ≡ findings_at n x g
findings_same n (notices.PassedDeadline d passings) f g same = ap (λ a. passed_at n d Read passings.read a ++ passed_at n d Write passings.write a) (same d)
findings_same n (notices.Checked v code) f g same = ap (λ a. if code == 2 then finding n v.descriptor v.side (EndedCall v.goroutine) a else []) (same v.descriptor)
findings_same n (notices.SetDeadline g' d mode) f g same = ap (λ a. taken_back_at n d mode Read a ++ taken_back_at n d mode Write a) (same d)
findings_same n (notices.Opened d s) f g same = refl
findings_same n (notices.Event d mode) f g same = refl
findings_same n (notices.Tried s side) f g same = refl
findings_same n (notices.TookReadiness v) f g same = refl
findings_same n (notices.TookReference g' s) f g same = refl
findings_same n (notices.GaveReference g' s) f g same = refl
findings_same n (notices.SocketOpened sock room) f g same = refl
findings_same n (notices.PeerClosed sock) f g same = refl
findings_same n notices.Nothing f g same = refl

pub notes_next : (r : Recording) (n : ℕ) (noticed : Notice) (old new : Notes) → AreNotes r n old → noticed ≡ notice_at r n → IsNoted (n + 1) noticed old.accounts new.accounts
    → ArePeersNoted noticed old.peers new.peers
    → AreHeld (n + 1) noticed old.rows new.rows → new.deadlines ≡ old.deadlines ++ findings_at (n + 1) noticed (kept_of old.accounts) → AreNotes r (n + 1) new
notes_next r n noticed old new notes is accounts peers rows deadlines =
    record {
      accounts =
          record {
            places = accounts.places ∙ notes.accounts.places;
            each = λ d below. accounts.each d (account r d n) (notes.accounts.each d below) ∙ ap Some (account_on d);
          };
      peers =
          record {
            places = peers.places ∙ notes.peers.places;
            each = λ s below. peers.each s (peer r s n) (notes.peers.each s below) ∙ ap Some (ap (λ x. peer_after s x (peer r s n)) is ∙ sym (ap (peer r s) (add-one n)));
          };
      holdings =
          record {
            there = λ s g below within. rows s g ∙ ap (option_map (holding_after (n + 1) g s noticed)) (notes.holdings.there s g below within) ∙ ap Some (holding_on s g);
            right = λ s g h at. held s g h (place old.rows s g) refl (sym (rows s g) ∙ at);
          };
      deadlines = deadlines ∙ ap (λ xs. xs ++ findings_at (n + 1) noticed (kept_of old.accounts)) notes.deadlines
          ∙ ap (λ xs. deadline_findings r n ++ xs)
          (findings_same (n + 1) noticed (kept_of old.accounts) (account_within r n) (λ d. kept_within r n d old.accounts notes.accounts)
          ∙ ap (λ x. findings_at (n + 1) x (account_within r n)) is ∙ ap (λ k. findings_at k (notice_at r n) (account_within r n)) (add-one n))
          ∙ sym (ap (deadline_findings r) (add-one n));
    }
  where
    account_on : (d : ℕ) → account_after (n + 1) d noticed (account r d n) ≡ account r d (n + 1)
    account_on d =
        ap (λ x. account_after (n + 1) d x (account r d n)) is ∙ ap (λ k. account_after k d (notice_at r n) (account r d n)) (add-one n) ∙ sym (ap (account r d) (add-one n))

    holding_on : (s g : ℕ) → holding_after (n + 1) g s noticed (holding r g s n) ≡ holding r g s (n + 1)
    holding_on s g =
        ap (λ x. holding_after (n + 1) g s x (holding r g s n)) is ∙ ap (λ k. holding_after k g s (notice_at r n) (holding r g s n)) (add-one n) ∙ sym (ap (holding r g s) (add-one n))

    held : (s g : ℕ) (h : Holding) (o : Option Holding) → place old.rows s g ≡ o → option_map (holding_after (n + 1) g s noticed) (place old.rows s g) ≡ Some h → h ≡ holding r g s (n + 1)
    held s g h None at e = absurd (none_made (sym (ap (option_map (holding_after (n + 1) g s noticed)) at) ∙ e))
      where
        none_made : None ≡ Some h → ⊥
        none_made x = cc
    held s g h (Some before) at e =
        sym (same_Some _ _ (sym (ap (option_map (holding_after (n + 1) g s noticed)) at) ∙ e))
        ∙ ap (holding_after (n + 1) g s noticed) (notes.holdings.right s g before at)
        ∙ holding_on s g

-- ---- the counts have room to grow

counted_after : (n k g s : ℕ) (noticed : Notice) (h : Holding) → (h.taken ≤ n) × (h.given ≤ n) → ((holding_after k g s noticed h).taken ≤ n + 1) × ((holding_after k g s noticed h).given ≤ n + 1)
counted_after n k g s noticed h few = go noticed
  where
    more : (h.taken ≤ n + 1) × (h.given ≤ n + 1)
    more = (omega (arith, few.0), omega (arith, few.1))

    by_take : (b : Bool) → ((if b then record h { taken = h.taken + 1; since = k } else h).taken ≤ n + 1) × ((if b then record h { taken = h.taken + 1; since = k } else h).given ≤ n + 1)
    by_take true = (omega (arith, few.0), omega (arith, few.1))
    by_take false = more

    by_give : (b : Bool) → ((if b then record h { given = h.given + 1 } else h).taken ≤ n + 1) × ((if b then record h { given = h.given + 1 } else h).given ≤ n + 1)
    by_give true = (omega (arith, few.0), omega (arith, few.1))
    by_give false = more

    go : (x : Notice) → ((holding_after k g s x h).taken ≤ n + 1) × ((holding_after k g s x h).given ≤ n + 1)
    go (notices.TookReference a b) = by_take ((g == a) && (s == b))
    go (notices.GaveReference a b) = by_give ((g == a) && (s == b))
    go (notices.Opened a b) = more
    go (notices.Event a b) = more
    go (notices.Tried a b) = more
    go (notices.TookReadiness a) = more
    go (notices.Checked a b) = more
    go (notices.SetDeadline a b c) = more
    go (notices.PassedDeadline a b) = more
    go (notices.SocketOpened sock room) = more
    go (notices.PeerClosed sock) = more
    go notices.Nothing = more

counted_to : (r : Recording) (g s n : ℕ) → ((holding r g s n).taken ≤ n) × ((holding r g s n).given ≤ n)
counted_to r g s zero = (omega arith, omega arith)
counted_to r g s (suc n) =
    let more = counted_after n (suc n) g s (notice_at r n) (holding r g s n) (counted_to r g s n) in
    (omega (arith, more.0), omega (arith, more.1))

pub has_room : (r : Recording) (n : ℕ) (notes : Notes) → AreNotes r n notes → n ≤ 1000000 → CanCount notes.rows
has_room r n notes are few s g h at =
    let counts = counted_to r g s n in
    let same = are.holdings.right s g h at in
    (subst (λ (x : Holding). x.taken < 2 ^ 64 - 1) (sym same) (omega (arith, counts.0, few)), subst (λ (x : Holding). x.given < 2 ^ 64 - 1) (sym same) (omega (arith, counts.1, few)))

-- ---- the findings

lost_same : (n : ℕ) (w : World) (f g : ℕ → Option Account) (k : ℕ) → ((d : ℕ) → d < k → f d ≡ g d) → lost_below n w f k ≡ lost_below n w g k
lost_same n w f g zero same = refl
lost_same n w f g (suc k) same =
    ap (λ xs. xs ++ (lost_at n w k (f k) Read ++ lost_at n w k (f k) Write)) (lost_same n w f g k (λ d below. same d (omega (arith, below))))
    ∙ ap (λ a. lost_below n w g k ++ (lost_at n w k a Read ++ lost_at n w k a Write)) (same k (omega arith))

held_below_same : (n : ℕ) (w : World) (s : ℕ) (f g : ℕ → Holding) (k : ℕ) → ((x : ℕ) → x < k → f x ≡ g x) → held_of_goroutines n w s f k ≡ held_of_goroutines n w s g k
held_below_same n w s f g zero same = refl
held_below_same n w s f g (suc k) same =
    ap (λ xs. xs ++ held_of_one n s k (cell w (Cell.Goroutine k)) (f k)) (held_below_same n w s f g k (λ x below. same x (omega (arith, below))))
    ∙ ap (λ h. held_of_goroutines n w s g k ++ held_of_one n s k (cell w (Cell.Goroutine k)) h) (same k (omega arith))

held_same : (n : ℕ) (w : World) (f g : ℕ → ℕ → Holding) (goroutines k : ℕ) → ((s x : ℕ) → s < k → x < goroutines → f s x ≡ g s x) → held_of_sockets n w f goroutines k ≡ held_of_sockets n w g goroutines k
held_same n w f g goroutines zero same = refl
held_same n w f g goroutines (suc k) same =
    ap (λ xs. xs ++ (if is_unfreed w k then held_of_goroutines n w k (f k) goroutines else [])) (held_same n w f g goroutines k (λ s x below within. same s x (omega (arith, below)) within))
    ∙ ap (λ ys. held_of_sockets n w g goroutines k ++ (if is_unfreed w k then ys else [])) (held_below_same n w k (f k) (g k) goroutines (λ x within. same k x (omega arith) within))

-- for each socket, the notebook records the same other end of the connection as the world
peers_are : (r : Recording) (n : ℕ) (peers : List (Option Peer)) → WellFormed (world_at r n) → ArePeers r n peers → (s : ℕ) → peer_in peers s ≡ option_map peer_of (slice_get (world_at r n).sockets s)
peers_are r n peers fits are s = by (nat_lt s r.limits.sockets) refl (slice_get peers s) (slice_get (world_at r n).sockets s) refl refl
  where
    by : (b : Bool) → nat_lt s r.limits.sockets ≡ b → (o : Option (Option Peer)) (x : Option Socket) → slice_get peers s ≡ o → slice_get (world_at r n).sockets s ≡ x → option_and_then (λ p. p) o ≡ option_map peer_of x
    by true below o x at there =
        ap (option_and_then (λ p. p)) (sym at ∙ are.each s (below_of s r.limits.sockets below)) ∙ peer_is r s n ∙ ap (option_map peer_of) there
    by false above None None at there = refl
    by false above None (Some socket) at there =
        let within = slice_get_within (world_at r n).sockets s socket there in
        let limited = fits.sockets_limited in
        let limit : (world_at r n).limits.sockets ≡ r.limits.sockets = ap (λ l. l.sockets) (limits_at r n) in
        absurd (not_below s r.limits.sockets above (omega (arith, within, limited, limit)))
    by false above (Some p) x at there =
        let within = slice_get_within peers s p at in
        let places = are.places in
        absurd (not_below s r.limits.sockets above (omega (arith, within, places)))

-- the sleepers found with the notebook are those of the recording
asleep_are : (r : Recording) (n : ℕ) (notes : Notes) → WellFormed (world_at r n) → AreNotes r n notes
    → sleepers_below n (world_at r n) (reason_kept (world_at r n) (kept_of notes.accounts) (peer_in notes.peers)) r.limits.descriptors ≡ sleepers r n
asleep_are r n notes fits are =
    let w : World = world_at r n in
    sleepers_same n w (reason_kept w (kept_of notes.accounts) (peer_in notes.peers)) (reason w) r.limits.descriptors λ d side below.
    kept_shows w (kept_of notes.accounts) (peer_in notes.peers) d side (peers_are r n notes.peers fits are.peers)
    (ap (λ o. option_map (λ (y : Account). y.socket) (option_and_then (λ a. a) o)) (are.accounts.each d below) ∙ socket_is r d n)

-- the suspects found with the notebook are those of the recording
pub found_are : (r : Recording) (w : World) (notes : Notes) (found : Suspects) → AreNotes r (length r.steps) notes → w ≡ world_at r (length r.steps) → WellFormed w
    → AreFound (length r.steps) w r.limits notes found → found_lines found ≡ suspect_lines r
found_are r w notes found are there fits is =
    let n = length r.steps in
    let lost : found.lost.items ≡ lost_wake_ups r n =
    is.lost
    ∙ ap (λ x. lost_below n x (kept_of notes.accounts) (length notes.accounts)) there
    ∙ ap (lost_below n (world_at r n) (kept_of notes.accounts)) are.accounts.places
    ∙ lost_same n (world_at r n) (kept_of notes.accounts) (λ d. account r d n) r.limits.descriptors (λ d below. ap (option_and_then (λ a. a)) (are.accounts.each d below)) in
    let held : found.held.items ≡ held_references r n =
    is.held
    ∙ ap (λ x. held_of_sockets n x (holding_of notes.rows) r.limits.goroutines r.limits.sockets) there
    ∙ held_same n (world_at r n) (holding_of notes.rows) (λ s g. holding r g s n) r.limits.goroutines r.limits.sockets
    (λ s x below within. ap (λ o. option_map_or (λ h. h) o none_held) (are.holdings.there s x below within)) in
    let asleep : found.asleep.items ≡ sleepers r n =
    is.asleep
    ∙ ap (λ x. sleepers_below n x (reason_kept x (kept_of notes.accounts) (peer_in notes.peers)) (length notes.accounts)) there
    ∙ ap (sleepers_below n (world_at r n) (reason_kept (world_at r n) (kept_of notes.accounts) (peer_in notes.peers))) are.accounts.places
    ∙ asleep_are r n notes (subst WellFormed there fits) are in
    ap (λ xs. deadline_lines xs ++ (lost_lines found.lost.items ++ (sleeper_lines found.asleep.items ++ held_lines found.held.items))) (is.deadlines ∙ are.deadlines)
    ∙ ap (λ xs. deadline_lines (deadline_findings r n) ++ (lost_lines xs ++ (sleeper_lines found.asleep.items ++ held_lines found.held.items))) lost
    ∙ ap (λ xs. deadline_lines (deadline_findings r n) ++ (lost_lines (lost_wake_ups r n) ++ (sleeper_lines xs ++ held_lines found.held.items))) asleep
    ∙ ap (λ ys. deadline_lines (deadline_findings r n) ++ (lost_lines (lost_wake_ups r n) ++ (sleeper_lines (sleepers r n) ++ held_lines ys))) held
