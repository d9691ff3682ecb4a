use Rattle.std.proofs.Common.{◌≡◌, Err, rules}
use Rattle.ckrt_gdb_stub.proofs.ConversationLemmas.{answers_err, heard_byte, request_broke, sign_broke}
use Rattle.ckrt_gdb_stub.proofs.stub.Stub.take_byte.Goals as goal

pub returns-in_err-asked-clause-broken : goal.returns-in_err-asked-clause-broken
returns-in_err-asked-clause-broken g c =
    let is : c.from_residual.result ≡ Err c.in_err-asked.field-0.0 = search rules in
    answers_err _ _ _ is
    (sign_broke c.args.byte c.args.self c.args.line.now (g.W.Write.contents c.args.writer.now) (g.W.Write.contents c.hear.new.writer) c.in_err-asked.field-0.0 c.in_err-asked.ensures.fault
    c.in_err-asked.ensures.part)

pub returns-clause-whole : goal.returns-clause-whole
returns-clause-whole g c =
    let h = c.in_ok-asked.ensures in
    heard_byte c.args.byte c.args.self c.args.line.now c.hear.new.self c.in_ok-asked.asked (g.W.Write.contents c.args.writer.now) (g.W.Write.contents c.hear.new.writer) h.asked h.heard h.kept h.ok
    (λ x. x.0) (λ x. x.1) c.take_request.new.line (g.W.Write.contents c.take_request.new.writer) c.take_request.result c.take_request.ensures.whole

pub returns-clause-broken : goal.returns-clause-broken
returns-clause-broken g c =
    let h = c.in_ok-asked.ensures in
    request_broke c.args.byte c.args.self c.args.line.now c.hear.new.self c.in_ok-asked.asked (g.W.Write.contents c.args.writer.now) (g.W.Write.contents c.hear.new.writer) h.asked h.heard h.kept h.ok
    (g.W.Write.contents c.take_request.new.writer) c.take_request.result c.take_request.ensures.broken
