use Rattle.std.proofs.Common.{◌≡◌, ◌++◌, List, ℕ, length}
use Rattle.std.specs.Io.KnownBytes.{Appends}
use Rattle.ckrt_gdb_stub.specs.Conversation.{console_frames}
use Rattle.ckrt_gdb_stub.proofs.line.Line.tell.Given as goal

-- the packets that were sent, and those of the rest
abbrev pub invariant-loop-rest : goal.invariant-loop-rest
invariant-loop-rest g l = record {
  heard : l.self.receiver ≡ l.fn.self.receiver;
  acknowledged : l.self.is_acknowledged ≡ l.fn.self.is_acknowledged;
  written : (done : List ℕ) × Appends (g.W.Write.contents l.fn.writer) (g.W.Write.contents l.writer) done × (console_frames l.text ≡ done ++ console_frames l.rest);
}

abbrev pub decreases-loop-rest : goal.decreases-loop-rest
decreases-loop-rest g l = length l.rest
