use Rattle.std.proofs.Common.{sym, ◌∙◌}
use Rattle.ckrt_gdb_stub.specs.Session.{look_in, way_in}
use Rattle.ckrt_gdb_stub.proofs.SessionLemmas.{by_walk}
use Rattle.ckrt_gdb_stub.proofs.stub.Stub.answer.Goals as goal

pub returns-in-Some-clause-answered : goal.returns-in-Some-clause-answered
returns-in-Some-clause-answered c =
    let r = c.args.request.now in let s = c.args.self in
    by_walk (look_in r s) (way_in r s) r s c.walk.new.out.items c.walk.result c.in-Some.way
    (sym c.look.ensures.told ∙ c.if-look.false) (sym c.way.ensures ∙ c.in-Some.is) c.walk.ensures.moved
