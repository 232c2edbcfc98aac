use Rattle.std.proofs.Common.{◌≡◌, ◌++◌, Some, None, sym, ap, ◌∙◌, true≢false}
use Rattle.std.proofs.lemmas.Bool.Decides.{Decides-eqb}
use Rattle.std.proofs.lemmas.List.{append_cancel_left}
use Rattle.std.proofs.lemmas.Slice.Eq.{slice_eq-Decides, strip_prefix_is}
use Rattle.nr_sockbuf.proofs.shared.SharedBytes.is.Goals as goal

-- if the bytes start with the first piece, they are the concatenation if and only if the rest is
-- the second piece
pub returns-in-Some : goal.returns-in-Some
returns-in-Some c =
    let front = c.args.front.now in
    let rest = c.in-Some.rest.now in
    let back = c.args.back.now in
    let parts : c.args.self.now ≡ front ++ rest = sym c.as_slice.ensures
    ∙ strip_prefix_is Decides-eqb c.as_slice.result.now front (Some c.in-Some.rest) c.in-Some.ensures.cases in
    let decides = slice_eq-Decides Decides-eqb rest back c.eq.result c.eq.ensures in (
      (λ equal. parts ∙ ap (λ l. front ++ l) (decides.0 equal)),
      λ whole. decides.1 (append_cancel_left front rest back (sym parts ∙ whole)),
    )

-- if the bytes don't start with the first piece, they aren't the concatenation
pub returns-in-None : goal.returns-in-None
returns-in-None c =
    let differs = strip_prefix_is Decides-eqb c.as_slice.result.now c.args.front.now None c.in-None.ensures.cases in (
      (λ equal. absurd (true≢false (sym equal))),
      λ whole. absurd (differs c.args.back.now (c.as_slice.ensures ∙ whole)),
    )
