use Rattle.std.proofs.Common.{◌*◌, false, take}
use Rattle.sha2.specs.Hashers.{Holds256}
use Rattle.ckrt_disk.specs.Frame.{IsOnlyRead}
use Rattle.ckrt_history.proofs.digest.digest_of_first.Given as goal

abbrev pub invariant-loop-piece : goal.invariant-loop-piece
invariant-loop-piece g l = record {
  read : IsOnlyRead g.D.Disk l.fn.file l.file false;
  holds : g.D.Disk.is_honest l.file → Holds256 l.hasher (take (4096 * l.piece) (g.D.Disk.content l.fn.file));
}
