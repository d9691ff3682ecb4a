use Rattle.std.proofs.Common.{◌≤◌, ◌*◌, false}
use Rattle.ckrt_disk.specs.Frame.{IsOnlyRead}
use Rattle.ckrt_history.specs.Copying.{AreSameBetween, WritesIn}
use Rattle.ckrt_history.proofs.copying.copy_blocks.Given as goal

abbrev pub invariant-loop-block : goal.invariant-loop-block
invariant-loop-block g l = record {
  some : 1 ≤ l.block;
  read : IsOnlyRead g.D.Disk l.fn.disk l.disk false;
  written : WritesIn g.F.Disk (λ i. 4096 ≤ i) l.fn.file l.file false;
  copied : g.D.Disk.is_honest l.disk → g.F.Disk.is_honest l.file → AreSameBetween 4096 (4096 * l.block) (g.D.Disk.content l.fn.disk) (g.F.Disk.content l.file);
}
