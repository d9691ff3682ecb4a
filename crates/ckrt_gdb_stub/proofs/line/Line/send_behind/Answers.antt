use Rattle.std.proofs.lemmas.Result.{on_ok_weaker}
use Rattle.ckrt_disk.proofs.WriteLemmas.{Appends-append, on_err}
use Rattle.ckrt_gdb_forms.specs.Framing.{frame_of}
use Rattle.ckrt_gdb_stub.specs.Conversation.{console_frames}
use Rattle.ckrt_gdb_stub.proofs.ConversationLemmas.{part_front, parts_behind}
use Rattle.ckrt_gdb_stub.proofs.line.Line.send_behind.Goals as goal

pub returns-in_err-tell-clause-part : goal.returns-in_err-tell-clause-part
returns-in_err-tell-clause-part g c =
    on_err _ _ (part_front (g.W.Write.contents c.args.writer.now) (g.W.Write.contents c.tell.new.writer) (console_frames c.args.note.now) (frame_of c.args.payload.now.items) c.in_err-tell.ensures.part)

pub returns-clause-ok : goal.returns-clause-ok
returns-clause-ok g c =
    let has = g.W.Write.contents in
    on_ok_weaker c.send_frame.result (λ last.
    Appends-append (has c.args.writer.now) (has c.tell.new.writer) (has c.send_frame.new.writer) (console_frames c.args.note.now) (frame_of c.args.payload.now.items) c.in_ok-tell.ensures.ok last) c.send_frame.ensures.ok

pub returns-clause-part : goal.returns-clause-part
returns-clause-part g c =
    let has = g.W.Write.contents in
    parts_behind c.send_frame.result (has c.args.writer.now) (has c.tell.new.writer) (has c.send_frame.new.writer) (console_frames c.args.note.now) (frame_of c.args.payload.now.items) c.in_ok-tell.ensures.ok
    c.send_frame.ensures.part
