use Rattle.std.proofs.Common.{rules, take, sym, subst}
use Rattle.std.proofs.Math.Seq.{take-add}
use Rattle.std.proofs.lemmas.List.{take_rest}
use Rattle.nr_text.specs.Streams.{Sends}
use Rattle.nr_text.proofs.StreamLemmas.{sends_then}
use Rattle.nr_text.proofs.buffered.put_out.Goals as goal

pub loop-sent-preserved : goal.loop-sent-preserved
loop-sent-preserved g c =
    let sent = c.loop-sent.sent in
    let count = c.in-Ok.count in
    let bytes = c.args.bytes.now in
    let now = c.write_some.new.writer.taken in
    let more = subst (λ rest. Sends c.loop-sent.writer.taken now (take count rest)) (take_rest bytes sent) c.in-Ok.ensures.1 in
    record {
      within = search rules;
      so_far = subst (Sends c.args.writer.now.taken now) (sym (take-add sent count bytes)) (sends_then _ _ _ _ _ c.loop-sent.invariant.so_far more);
      calm = search rules;
      uncounted = search rules;
    }
