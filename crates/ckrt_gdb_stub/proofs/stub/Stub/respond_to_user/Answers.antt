use Rattle.std.proofs.Common.{◌≡◌, Err, rules}
use Rattle.ckrt_gdb_stub.specs.Conversation.{RepliesToUser}
use Rattle.ckrt_gdb_stub.proofs.ConversationLemmas.{all_told, answers_err, err_is, ok_broke, replay_broke, tell_broke, user_told}
use Rattle.ckrt_gdb_stub.proofs.stub.Stub.respond_to_user.Goals as goal

pub returns-in_err-stub-clause-broken : goal.returns-in_err-stub-clause-broken
returns-in_err-stub-clause-broken g c =
    let is : c.from_residual.result ≡ Err c.in_err-stub.field-0.0 = search rules in
    answers_err _ _ _ is
    (replay_broke (RepliesToUser c.args.text.now c.args.self) c.args.self (g.W.Write.contents c.args.writer.now) c.in_err-stub.field-0.0 c.in_err-stub.ensures.fault
    c.in_err-stub.ensures.refused)

pub returns-in_err-tell-clause-broken : goal.returns-in_err-tell-clause-broken
returns-in_err-tell-clause-broken g c =
    let is : c.from_residual-in_err-tell.result ≡ Err c.in_err-tell.field-0.0 = search rules in
    let obeyed = c.in_ok-stub.ensures.obeyed in
    let told : c.as_slice.result.now ≡ c.in_ok-stub.ensures.obeyed.0 = all_told c.as_slice.result.now c.obey.new.out.items c.new-console.result.items obeyed.0 c.as_slice.ensures.value obeyed.2 c.new-console.ensures.items in
    answers_err _ _ _ is
    (tell_broke c.args.text.now c.as_slice.result.now obeyed.0 c.args.self c.in_ok-stub.stub obeyed.1 told
    (g.W.Write.contents c.args.writer.now) (g.W.Write.contents c.tell.new.writer) c.in_err-tell.field-0.0 c.in_err-tell.ensures.fault c.in_err-tell.ensures.part)

pub returns-in_err-send_reply-clause-broken : goal.returns-in_err-send_reply-clause-broken
returns-in_err-send_reply-clause-broken g c =
    let is : c.from_residual-in_err-send_reply.result ≡ Err c.in_err-send_reply.field-0.0 = err_is _ _ c.from_residual-in_err-send_reply.ensures.1 in
    let obeyed = c.in_ok-stub.ensures.obeyed in
    let told : c.as_slice.result.now ≡ c.in_ok-stub.ensures.obeyed.0 = all_told c.as_slice.result.now c.obey.new.out.items c.new-console.result.items obeyed.0 c.as_slice.ensures.value obeyed.2 c.new-console.ensures.items in
    answers_err _ _ _ is
    (ok_broke c.args.text.now c.as_slice.result.now obeyed.0 c.args.self c.in_ok-stub.stub obeyed.1 told
    (g.W.Write.contents c.args.writer.now) (g.W.Write.contents c.tell.new.writer) (g.W.Write.contents c.send_reply.new.writer) c.in_err-send_reply.field-0.0 c.in_err-send_reply.ensures.fault
    c.in_ok-tell.ensures.ok c.in_err-send_reply.ensures.part)

pub returns-clause-whole : goal.returns-clause-whole
returns-clause-whole g c =
    let obeyed = c.in_ok-stub.ensures.obeyed in
    let told : c.as_slice.result.now ≡ c.in_ok-stub.ensures.obeyed.0 = all_told c.as_slice.result.now c.obey.new.out.items c.new-console.result.items obeyed.0 c.as_slice.ensures.value obeyed.2 c.new-console.ensures.items in
    user_told c.args.text.now c.as_slice.result.now obeyed.0 c.args.self c.in_ok-stub.stub obeyed.1 told
    (g.W.Write.contents c.args.writer.now) (g.W.Write.contents c.tell.new.writer) (g.W.Write.contents c.send_reply.new.writer) c.send_reply.new.self.frame.items c.in_ok-send_reply.ensures.sent
    c.in_ok-tell.ensures.ok c.in_ok-send_reply.ensures.ok
