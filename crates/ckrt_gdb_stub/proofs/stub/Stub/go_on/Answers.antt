use Rattle.std.proofs.Common.{◌≡◌, Err, rules}
use Rattle.ckrt_gdb_stub.specs.Conversation.{talk_of}
use Rattle.ckrt_gdb_stub.proofs.ConversationLemmas.{answers_err, broken_byte, goes_on, left_by}
use Rattle.ckrt_gdb_stub.proofs.stub.Stub.go_on.Goals as goal

pub returns-in_err-next-clause-broken : goal.returns-in_err-next-clause-broken
returns-in_err-next-clause-broken g c =
    let is : c.from_residual.result ≡ Err c.in_err-next.field-0.0 = search rules in
    answers_err _ _ _ is
    (λ r s got. broken_byte (talk_of c.args.self c.args.line.now) c.args.byte (g.W.Write.contents c.args.writer.now) (g.W.Write.contents c.take_byte.new.writer) r s got c.in_err-next.field-0.0
    c.in_err-next.ensures.broken)

pub returns-then-has_left-clause-whole : goal.returns-then-has_left-clause-whole
returns-then-has_left-clause-whole g c =
    let h = c.in_ok-next.ensures.whole in
    λ r s got. left_by (talk_of c.args.self c.args.line.now) c.args.byte (g.W.Write.contents c.args.writer.now) (g.W.Write.contents c.take_byte.new.writer) r s got
    (talk_of c.in_ok-next.next c.take_byte.new.line) h.0 c.in_ok-next.has_left h.1 h.2 c.if-has_left.true

pub returns-clause-whole : goal.returns-clause-whole
returns-clause-whole g c =
    let h = c.in_ok-next.ensures.whole in
    λ r s got. goes_on (talk_of c.args.self c.args.line.now) c.args.byte (g.W.Write.contents c.args.writer.now) (g.W.Write.contents c.take_byte.new.writer) r s got
    (talk_of c.in_ok-next.next c.take_byte.new.line) h.0 c.in_ok-next.has_left h.1 h.2 c.if-has_left.false
