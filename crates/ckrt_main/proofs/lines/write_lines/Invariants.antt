use Rattle.std.proofs.Common.{◌≡◌, ◌+◌, ◌++◌, [], List, length}
use Rattle.ckrt_main.specs.Replies.{Reply, outputs}
use Rattle.ckrt_main.specs.Service.{Writes}
use Rattle.ckrt_main.proofs.lines.write_lines.Given as goal

abbrev pub invariant-loop-rest : goal.invariant-loop-rest
invariant-loop-rest g l = record {
  end : l.at + length l.rest ≡ l.fn.offset + length l.bytes;
  written : (shown : List Reply) × Writes (g.W.Write.contents l.fn.writer) (g.W.Write.contents l.writer) shown [] × (shown ++ outputs l.at l.rest ≡ outputs l.fn.offset l.bytes);
}

abbrev pub decreases-loop-rest : goal.decreases-loop-rest
decreases-loop-rest g l = length l.rest
