use Rattle.std.proofs.Common.{◌≡◌, ◌+◌, get_or, ap, ◌∙◌, arith}
use Rattle.nr_recording.proofs.LineLemmas.{line_then, one_line}
use Rattle.nr_recording.proofs.reading.first_line.Goals as goal

pub returns-in_default : goal.returns-in_default
returns-in_default c = one_line c.args.text.now c.in_default.ensures

pub returns : goal.returns
returns c =
    let text = c.args.text.now in
    let end = c.in-Some.end in
    let both = c.split_at.ensures.by_index in
    let here : end + 0 ≡ end = omega arith in
    line_then text c.split_at.result.0.now c.split_at.result.1.now end c.in-Some.ensures.0.before c.in-Some.ensures.1 both.0 c.split_at.ensures.front_len (λ k below. both.1 k 0 below)
    (both.2 0 0 ∙ ap (λ k. get_or text k 0) here) c.in-len1-up.len_at_least
