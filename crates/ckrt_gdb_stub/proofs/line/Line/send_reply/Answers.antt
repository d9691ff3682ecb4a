use Rattle.std.proofs.Common.{List, ℕ, subst}
use Rattle.std.specs.Prelude.{OnErr, OnOk}
use Rattle.std.specs.Io.KnownBytes.{Appends}
use Rattle.ckrt_disk.specs.Writing.{AppendsPart}
use Rattle.ckrt_gdb_forms.specs.Framing.{frame_of}
use Rattle.ckrt_gdb_stub.proofs.line.Line.send_reply.Goals as goal

pub returns-clause-ok : goal.returns-clause-ok
returns-clause-ok g c =
    subst (λ (p : List ℕ). OnOk c.send.result (Appends (g.W.Write.contents c.args.writer.now) (g.W.Write.contents c.send.new.writer) (frame_of p))) c.put_reply.ensures c.send.ensures.ok

pub returns-clause-part : goal.returns-clause-part
returns-clause-part g c =
    subst (λ (p : List ℕ). OnErr c.send.result (AppendsPart (g.W.Write.contents c.args.writer.now) (g.W.Write.contents c.send.new.writer) (frame_of p))) c.put_reply.ensures c.send.ensures.part
