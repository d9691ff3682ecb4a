use Rattle.std.proofs.Common.{◌<◌, ◌∙◌, length, arith}
use Rattle.std.proofs.lemmas.Bool.Decides.{nat_tests}
use Rattle.std.proofs.lemmas.Grind.{common_steps}
use Rattle.ckrt_disk.proofs.WriteLemmas.{on_err}
use Rattle.ckrt_gdb_stub.proofs.ConversationLemmas.{told_more, told_part}
use Rattle.ckrt_gdb_stub.proofs.line.Line.tell.Goals as goal

pub returns-in_err-send_reply-clause-part : goal.returns-in_err-send_reply-clause-part
returns-in_err-send_reply-clause-part g c =
    let i = c.loop-rest.invariant in
    let some : 0 < length c.loop-rest.rest.now = grind (arith, common_steps, nat_tests) in
    on_err _ _ (told_part (g.W.Write.contents c.args.writer.now) (g.W.Write.contents c.loop-rest.writer) (g.W.Write.contents c.send_reply.new.writer) c.args.text.now c.loop-rest.rest.now i.written.0
    c.split_at.result.0.now c.split_at.result.1.now c.min.result some i.written.1 i.written.2 c.min.ensures c.split_at.ensures.front c.split_at.ensures.back
    c.in_err-send_reply.ensures.part)

pub loop-rest-preserved : goal.loop-rest-preserved
loop-rest-preserved g c =
    let i = c.loop-rest.invariant in
    let some : 0 < length c.loop-rest.rest.now = grind (arith, common_steps, nat_tests) in
    record {
      heard = c.send_reply.ensures.heard ∙ i.heard;
      acknowledged = c.send_reply.ensures.acknowledged ∙ i.acknowledged;
      written = told_more (g.W.Write.contents c.args.writer.now) (g.W.Write.contents c.loop-rest.writer) (g.W.Write.contents c.send_reply.new.writer) c.args.text.now c.loop-rest.rest.now i.written.0
          c.split_at.result.0.now c.split_at.result.1.now c.min.result some i.written.1 i.written.2 c.min.ensures c.split_at.ensures.front c.split_at.ensures.back
          c.in_ok-send_reply.ensures.ok;
    }
