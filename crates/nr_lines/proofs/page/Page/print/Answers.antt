use Rattle.std.proofs.Common.{List, ℕ, subst, sym}
use Rattle.nr_text.specs.Streams.{WritesAll}
use Rattle.nr_lines.specs.Page.{PrintsBehind}
use Rattle.nr_lines.proofs.PageLemmas.{goes_then}
use Rattle.nr_lines.proofs.page.Page.print.Goals as goal

pub returns : goal.returns
returns g c =
    let text = g.T.Text.text c.args.text.now in
    let held = c.args.self.now in
    let kept = c.hold.ensures.leaves c.if-hold.false in
    let first = subst (λ (h : List ℕ). WritesAll c.args.w.now c.put_out.new.w h) kept c.in_ok-put_out.ensures.prints in
    subst (λ (still : List ℕ). PrintsBehind c.args.w.now held c.print.new.self still text c.print.result) (sym c.in_ok-put_out.ensures.empty)
    (goes_then c.args.w.now c.put_out.new.w c.print.new.self held text c.print.result first c.print.ensures)
