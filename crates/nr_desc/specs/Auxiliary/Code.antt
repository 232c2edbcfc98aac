-- Helper definitions for `Code`. The laws in THEOREM.md don't use them.
use Rattle.std.specs.Prelude.{◌≡◌, ℕ, ◌+◌, ◌-◌, ◌==◌, if◌then◌else◌}
use Rattle.std.proofs.Common.{arith}
use Rattle.std.proofs.lemmas.Bool.Decides.{nat_tests}
use Rattle.nr_rev.specs.declared.descriptor.WaitWord.{WaitWord}
use Rattle.nr_rev.specs.declared.descriptor.WaitWord.TheVariants.{Nil, Ready, Wait, Held}

-- the code of a word: 0 nil, 1 ready, 2 wait, and for a goroutine its number plus 3
abbrev pub code_of : WaitWord → ℕ
code_of Nil = 0
code_of Ready = 1
code_of Wait = 2
code_of (Held g) = g + 3

-- the word with this code
abbrev pub wait_word_of : ℕ → WaitWord
wait_word_of n =
    if n == 0 then Nil else (if n == 1 then Ready else (if n == 2 then Wait else Held (n - 3)))

-- each number is the code of the word that it encodes
pub code_of-wait_word_of : (n : ℕ) → code_of (wait_word_of n) ≡ n
code_of-wait_word_of n = grind (arith, nat_tests)
