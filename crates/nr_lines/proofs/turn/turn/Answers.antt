use Rattle.std.proofs.Common.{◌+◌, [], refl, ap, sym, subst, ◌∙◌, cond, None, Some}
use Rattle.nr_command.specs.Reply.{text_of}
use Rattle.nr_text.specs.Streams.{saturating_count}
use Rattle.nr_lines.specs.Auxiliary.Turn.{MayReply}
use Rattle.nr_lines.specs.Outbox.{Delivers, held_bytes}
use Rattle.nr_lines.specs.declared.outbox.Outbox.{Outbox}
use Rattle.nr_command.proofs.ReplyLemmas.{has_text}
use Rattle.nr_lines.proofs.PageLemmas.{nothing_printed}
use Rattle.nr_lines.proofs.turn.turn.Goals as goal

pub returns-in-Ok-clause-ok : goal.returns-in-Ok-clause-ok
returns-in-Ok-clause-ok g c =
    let printed = c.in-Some.ensures.printed in
    let reply = printed.0 in
    let whole = c.args.whole.now in
    let count = c.saturating_add.ensures ∙ sym (ap (λ some. cond some (saturating_count (whole + 1)) whole) (has_text reply)) in
    let asked = subst (λ asked. MayReply asked c.args.front.now (Some reply) c.print_reply.new.front) c.parse-asked.ensures printed.1 in
    let delivered = subst (Delivers c.args.w.now c.args.outbox.now c.print_reply.new.w c.print_reply.new.outbox (text_of reply)) c.in-Ok.is printed.2 in
    record { text = text_of reply; turn = (Some reply, asked, refl); goes = delivered.prints; count = count }

pub returns-in_default-clause-ok : goal.returns-in_default-clause-ok
returns-in_default-clause-ok g c =
    let silent = c.in_default.ensures in
    let asked = subst (λ asked. MayReply asked c.args.front.now None c.print_reply.new.front) c.parse-asked.ensures silent.silent in
    record {
      text = [];
      turn = (None, asked, refl);
      goes = nothing_printed c.args.w.now c.print_reply.new.w (held_bytes c.args.outbox.now) (held_bytes c.print_reply.new.outbox) silent.nothing (ap (λ (box : Outbox). held_bytes box) silent.none);
      count = refl;
    }
