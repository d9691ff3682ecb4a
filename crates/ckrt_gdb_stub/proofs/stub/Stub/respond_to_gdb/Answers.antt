use Rattle.std.proofs.Common.{◌≡◌, Err, rules}
use Rattle.ckrt_disk.proofs.WriteLemmas.{Appends-nothing}
use Rattle.ckrt_gdb_stub.specs.Conversation.{note_of}
use Rattle.ckrt_gdb_stub.specs.declared.fault.DebugFault.TheVariants.{Refused}
use Rattle.ckrt_gdb_stub.proofs.ConversationLemmas.{answers_err, gdb_broke, gdb_told, no_memory}
use Rattle.ckrt_gdb_stub.proofs.stub.Stub.respond_to_gdb.Goals as goal

pub returns-in_err-stub-clause-broken : goal.returns-in_err-stub-clause-broken
returns-in_err-stub-clause-broken g c =
    let is : c.from_residual.result ≡ Err Refused = search rules in
    answers_err _ _ _ is (Appends-nothing (g.W.Write.contents c.args.writer.now), c.in_err-stub.ensures.refused)

pub returns-in_err-stub-clause-memory : goal.returns-in_err-stub-clause-memory
returns-in_err-stub-clause-memory g c =
    let is : c.from_residual.result ≡ Err Refused = search rules in
    answers_err _ _ _ is (λ same. absurd (cc))

pub returns-in_err-send_behind-clause-memory : goal.returns-in_err-send_behind-clause-memory
returns-in_err-send_behind-clause-memory g c =
    let is : c.from_residual-in_err-send_behind.result ≡ Err c.in_err-send_behind.field-0.0 = search rules in
    answers_err _ _ _ is (no_memory c.in_err-send_behind.field-0.0 c.in_err-send_behind.ensures.fault)

pub returns-in_err-send_behind-clause-broken : goal.returns-in_err-send_behind-clause-broken
returns-in_err-send_behind-clause-broken g c =
    let is : c.from_residual-in_err-send_behind.result ≡ Err c.in_err-send_behind.field-0.0 = search rules in
    let note : c.note_by.result.now ≡ note_of c.args.request.now c.args.self c.in_ok-stub.stub = search rules in
    answers_err _ _ _ is
    (gdb_broke c.args.request.now c.args.self c.in_ok-stub.stub c.answer.new.out.items c.note_by.result.now c.in_ok-stub.ensures.answered note (g.W.Write.contents c.args.writer.now) (g.W.Write.contents c.send_behind.new.writer)
    c.in_err-send_behind.field-0.0 c.in_err-send_behind.ensures.fault c.in_err-send_behind.ensures.part)

pub returns-clause-whole : goal.returns-clause-whole
returns-clause-whole g c =
    let note : c.note_by.result.now ≡ note_of c.args.request.now c.args.self c.in_ok-stub.stub = search rules in
    gdb_told c.args.request.now c.args.self c.in_ok-stub.stub c.answer.new.out.items c.note_by.result.now c.in_ok-stub.ensures.answered note c.send_behind.new.self.frame.items (g.W.Write.contents c.args.writer.now) (g.W.Write.contents c.send_behind.new.writer)
    c.in_ok-send_behind.ensures.sent c.in_ok-send_behind.ensures.ok
