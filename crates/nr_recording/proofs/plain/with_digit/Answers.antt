use Rattle.std.proofs.Common.{◌≡◌, ◌+◌, ◌*◌, ◌<◌, ◌^◌, ◌++◌, ◌∷◌, [], ℕ, decimal, Option, Some, None, IfSome, ap, ◌∙◌, arith}
use Rattle.std.specs.Option.{SomeIff}
use Rattle.nr_recording.proofs.PlainLemmas.{digit_added}
use Rattle.nr_recording.proofs.plain.with_digit.Goals as goal

added : (n d tens : ℕ) (found : Option ℕ) → 0 < n → d < 10 → tens ≡ n * 10 → SomeIff found (tens + d < 2 ^ 64) (tens + d) → IfSome found (λ m. decimal m ≡ decimal n ++ (48 + d) ∷ [])
added n d tens None some small is h = tt
added n d tens (Some m) some small is h =
    let same : m ≡ n * 10 + d = omega (arith, h.1) in
    ap decimal same ∙ digit_added n d some small (omega (arith, h.0))

pub returns-clause-number : goal.returns-clause-number
returns-clause-number c =
    added c.args.number c.args.digit c.in_ok-checked_mul.field-0 c.checked_add.result c.requires.some c.requires.digit c.in_ok-checked_mul.ensures.1 c.checked_add.ensures
