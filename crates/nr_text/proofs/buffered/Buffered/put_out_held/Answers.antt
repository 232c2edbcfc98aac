use Rattle.std.proofs.Common.{sym, subst, ◌++◌, []}
use Rattle.std.specs.Prelude.{OnErr, OnOk}
use Rattle.nr_text.specs.Buffered.{Buffering, HasSent, PutsOut, PutsOutSome, SentOrCut}
use Rattle.nr_text.proofs.BufferedLemmas.{puts}
use Rattle.nr_text.proofs.buffered.Buffered.put_out_held.Goals as goal

pub returns-clause-out : goal.returns-clause-out
returns-clause-out g c = record {
  behind = λ start sent has.
      let put = c.put_out-result in
      let inside = c.self.inside in
      let old : Buffering = record { taken = inside.writer.taken; held = inside.held.items; out = inside.out } in
      let taken = put.new.writer.taken in
      let held = c.as_slice.ensures.value in
      let all = subst (λ bytes. OnOk put.result (PutsOut bytes old.taken taken old.out put.new.out)) held put.ensures.ok in
      let some = subst (λ bytes. OnErr put.result (PutsOutSome bytes old.taken taken old.out put.new.out)) held put.ensures.err in
      subst (λ kept. SentOrCut start (sent ++ []) (record { taken = taken; held = kept; out = put.new.out }) put.result) (sym c.clear.ensures)
      (puts start taken sent old put.new.out put.result (subst (HasSent start sent) (sym c.self.view_is) has) all some);
}
