use Rattle.std.proofs.Common.{◌≡◌, refl, subst, ◌∙◌, rules}
use Rattle.std.specs.Prelude.{ℕ, [], ◌∷◌}
use Rattle.hex.specs.Hex.{encode_lower, encode_with}
use Rattle.nr_text.specs.Buffered.{Writes}
use Rattle.nr_text.specs.Text.{hex_pair}
use Rattle.nr_text.proofs.text.HexPairText.send.Goals as goal

-- the library formats one byte as its pair of digits
pair_is : (b : ℕ) → encode_lower (b ∷ []) ≡ hex_pair b
unfolding encode_with
pair_is b = refl

pub returns : goal.returns
returns g c =
    let written : c.encode_to_slice.new.output ≡ encode_lower (c.args.self.now.0 ∷ []) = search rules in
    subst (λ digits. Writes c.args.w.now c.send.new.self digits c.send.result) (written ∙ pair_is c.args.self.now.0) c.send.ensures
