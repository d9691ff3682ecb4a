use Rattle.std.proofs.Common.{◌≡◌, ◌++◌, List, ℕ}
use Rattle.std.specs.Io.KnownBytes.{Appends}
use Rattle.ckrt_disk.proofs.writing.write_bytes.Given as goal

abbrev pub invariant-loop : goal.invariant-loop
invariant-loop g l = record {
  written : (front : List ℕ) × Appends (g.W.Write.contents l.fn.writer) (g.W.Write.contents l.writer) front × (l.bytes ≡ front ++ l.rest);
}
