use Rattle.ckrt_gdb_stub.specs.Conversation.{HasHeard, begun, talk_of}
use Rattle.ckrt_gdb_stub.proofs.stub.Stub.serve.Given as goal

-- all bytes that were read have got what they get
abbrev pub invariant-loop : goal.invariant-loop
invariant-loop g l =
    HasHeard (g.R.Read.remaining l.fn.reader) (g.R.Read.remaining l.reader) (g.W.Write.contents l.fn.writer) (g.W.Write.contents l.writer) (begun l.fn.self) (talk_of l.stub l.line)
