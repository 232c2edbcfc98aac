-- References to closed sockets that goroutines still hold, so that the sockets can't be freed.
use Rattle.std.specs.Prelude.{◌≡◌, ℕ, zero, suc, ◌+◌, ◌-◌, ◌<◌, Bool, true, false, ◌&&◌, nat_lt, if◌then◌else◌, List, [], ◌∷◌, ◌++◌, slice_get, IsTrue, codes, decimal}
use Rattle.std.specs.Option.{option_map_or}
use Rattle.nr_rev.specs.declared.cell.Cell.{Cell}
use Rattle.nr_rev.specs.declared.cell_value.CellValue.{CellValue}
use Rattle.nr_rev.specs.declared.status.Status.TheVariants.{Gone}
use Rattle.nr_rev.specs.Cell.{cell}
use Rattle.nr_rev.specs.Run.{Recording, world_at}
use Rattle.nr_rev.specs.Socket.{Socket}
use Rattle.nr_rev.specs.World.{World}
use Rattle.nr_text.specs.Auxiliary.Text.{text_of_parts}
use Rattle.nr_suspects.specs.declared.held_reference.HeldReference.{HeldReference}
use Rattle.nr_suspects.specs.declared.holding.Holding.{Holding}
use Rattle.nr_suspects.specs.Holdings.{holding}

-- true if socket s is closed and still has references, so that it isn't freed
abbrev pub is_unfreed : World → ℕ → Bool
is_unfreed w s =
    option_map_or (λ (socket : Socket). socket.lock.closed && nat_lt 0 socket.lock.references)
    (slice_get w.sockets s) false

-- true if a goroutine with this status has ended
abbrev pub is_gone : CellValue → Bool
is_gone (CellValue.Status Gone) = true
is_gone _ = false

-- the references to socket s that goroutine g holds, if it took more than it returned
abbrev pub held_of_one : ℕ → ℕ → ℕ → CellValue → Holding → List HeldReference
held_of_one n s g status h =
    if nat_lt h.given h.taken then record {
      position = n;
      socket = s;
      goroutine = g;
      count = h.taken - h.given;
      since = h.since;
      is_gone = is_gone status;
    } ∷ [] else []

-- the references to socket s that the goroutines below k hold; `held` gives the counts of each
-- goroutine
abbrev pub held_of_goroutines : ℕ → World → ℕ → (ℕ → Holding) → ℕ → List HeldReference
held_of_goroutines n w s held zero = []
held_of_goroutines n w s held (suc k) =
    held_of_goroutines n w s held k ++ held_of_one n s k (cell w (Cell.Goroutine k)) (held k)

-- the references to closed, unfreed sockets below k that the first `goroutines` goroutines hold
abbrev pub held_of_sockets : ℕ → World → (ℕ → ℕ → Holding) → ℕ → ℕ → List HeldReference
held_of_sockets n w held goroutines zero = []
held_of_sockets n w held goroutines (suc k) =
    held_of_sockets n w held goroutines k
    ++ (if is_unfreed w k then held_of_goroutines n w k (held k) goroutines else [])

-- All held references to closed sockets at position n of a recording, sorted by socket and then by
-- goroutine.
abbrev pub held_references : Recording → ℕ → List HeldReference
held_references r n =
    held_of_sockets n (world_at r n) (λ s g. holding r g s n) r.limits.goroutines r.limits.sockets

-- ---- in words

-- Goroutine g holds references to socket s at position n: the socket is closed and not freed, and
-- the goroutine took more references to it than it returned.
pub record IsHeld (r : Recording) (n s g : ℕ) : Type 0 where
  pub unfreed : IsTrue (is_unfreed (world_at r n) s)
  pub more : (holding r g s n).given < (holding r g s n).taken

-- the entry is correct: it says how many references its goroutine holds, and which step took the
-- last of them
pub record IsListed (r : Recording) (n : ℕ) (held : HeldReference) : Type 0 where
  pub position : held.position ≡ n
  pub count : held.count + (holding r held.goroutine held.socket n).given
      ≡ (holding r held.goroutine held.socket n).taken
  pub since : held.since ≡ (holding r held.goroutine held.socket n).since

-- ---- their lines

-- the suffix ` gone` if the goroutine has ended
abbrev pub gone_text : Bool → List ℕ
gone_text true = codes " gone"
gone_text false = []

-- `at 90 held-reference sock 1 gor 3 count 1 since 45`, followed by ` gone` if the goroutine has
-- ended
abbrev pub held_line : HeldReference → List ℕ
held_line held =
    codes "at " ++ (decimal held.position
    ++ (codes " held-reference sock " ++ (decimal held.socket
    ++ (codes " gor " ++ (decimal held.goroutine
    ++ (codes " count " ++ (decimal held.count
    ++ (codes " since " ++ (decimal held.since ++ (gone_text held.is_gone ++ codes "\n"))))))))))

-- a line for each held reference
abbrev pub held_lines : List HeldReference → List ℕ
held_lines found = text_of_parts held_line found
