use Rattle.std.proofs.Common.{[], ap, append-nil, subst, sym, ◌∙◌}
use Rattle.nr_text.specs.Buffered.{HasSent}
use Rattle.nr_text.proofs.BufferedLemmas.{puts_directly, writes_cut}
use Rattle.nr_text.proofs.buffered.Buffered.send.Goals as goal

pub returns-in_err-put_out_held : goal.returns-in_err-put_out_held
returns-in_err-put_out_held g c = writes_cut _ _ [] c.args.piece.now _ _ c.from_residual.ensures.0 c.in_err-put_out_held.ensures.out

pub returns : goal.returns
returns g c = record {
  behind = λ start sent has.
      let there = subst (HasSent start sent) (sym c.self-2.view_is) (subst (λ s. HasSent start s c.put_out_held.new.self) (append-nil sent) (c.in_ok-put_out_held.ensures.out.behind start sent has)) in
      let none = ap (λ b. b.held) c.self-2.view_is ∙ c.in_ok-put_out_held.ensures.empty in
      puts_directly start _ sent c.args.piece.now _ _ _ c.put_out.result none none there c.put_out.ensures.ok c.put_out.ensures.err;
}
