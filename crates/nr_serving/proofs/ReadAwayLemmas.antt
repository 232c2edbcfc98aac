-- The bytes that `read_away` reads.
use Rattle.std.proofs.Common.{◌≤◌, ◌+◌, ◌*◌, ℕ, List, ◌++◌, length, take, arith, Option}
use Rattle.std.specs.Io.KnownBytes.{Consumes}
use Rattle.std.proofs.KnownBytes.{Consumes-trans}
use Rattle.std.proofs.lemmas.List.{length-append, length-take-le}

-- the bytes that some number of reads returned
abbrev pub Took : Option (List ℕ) → Option (List ℕ) → ℕ → Type 0
Took old new most = (bytes : List ℕ) × Consumes old new bytes × (length bytes ≤ most)

-- after another read
pub took_more : (a b c : Option (List ℕ)) (reads n : ℕ) (buf : List ℕ) → Took a b (reads * 512) → Consumes b c (take n buf) → n ≤ length buf → length buf ≤ 512 → Took a c ((reads + 1) * 512)
took_more a b c reads n buf (bytes, so_far, few) more within room =
    let whole = length-append bytes (take n buf) in
    let one = length-take-le n buf within in
    (bytes ++ take n buf, Consumes-trans a b c bytes (take n buf) so_far more, omega (arith, whole, one, few, within, room))
