use Rattle.std.proofs.Common.{[], refl}
use Rattle.ckrt_disk.proofs.WriteLemmas.{Appends-nothing}
use Rattle.ckrt_gdb_stub.proofs.stub.Stub.take_request.Goals as goal

pub returns-in_default-clause-whole : goal.returns-in_default-clause-whole
returns-in_default-clause-whole g c =
    rw c.in_default.is ([], (refl, refl, refl), Appends-nothing (g.W.Write.contents c.args.writer.now))
