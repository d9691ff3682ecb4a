use Rattle.std.proofs.Common.{Some, None, sym, ap, ◌∙◌}
use Rattle.std.specs.Prelude.{option_map}
use Rattle.ckrt_gdb_stub.proofs.ConversationLemmas.{broken_by, gdb_takes_none, user_takes}
use Rattle.ckrt_gdb_stub.proofs.stub.Stub.respond.Goals as goal

pub returns-in-Some-clause-broken : goal.returns-in-Some-clause-broken
returns-in-Some-clause-broken g c =
    broken_by c.args.request.now c.args.self (g.W.Write.contents c.args.writer.now) (g.W.Write.contents c.respond_to_user.new.writer) (Some c.in-Some.text.now) c.respond_to_user.result
    (sym c.monitored.ensures ∙ ap (option_map (λ t. t.now)) c.in-Some.is) c.respond_to_user.ensures.broken

pub returns-in-None-clause-broken : goal.returns-in-None-clause-broken
returns-in-None-clause-broken g c =
    broken_by c.args.request.now c.args.self (g.W.Write.contents c.args.writer.now) (g.W.Write.contents c.respond_to_gdb.new.writer) None c.respond_to_gdb.result
    (sym c.monitored.ensures ∙ ap (option_map (λ t. t.now)) c.in-None.is) c.respond_to_gdb.ensures.broken

pub returns-in-Some-clause-memory : goal.returns-in-Some-clause-memory
returns-in-Some-clause-memory g c =
    user_takes c.args.request.now c.in-Some.text.now c.respond_to_user.result (sym c.monitored.ensures ∙ ap (option_map (λ t. t.now)) c.in-Some.is)

pub returns-in-None-clause-memory : goal.returns-in-None-clause-memory
returns-in-None-clause-memory g c = gdb_takes_none c.args.request.now c.respond_to_gdb.result c.respond_to_gdb.ensures.memory
