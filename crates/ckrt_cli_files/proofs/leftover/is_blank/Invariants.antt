use Rattle.std.proofs.Common.{◌≡◌, ◌-◌, ◌≤◌, true, false, take}
use Rattle.ckrt_disk.specs.Frame.{IsOnlyRead}
use Rattle.ckrt_cli_files.specs.Leftovers.{is_zero}
use Rattle.ckrt_cli_files.proofs.leftover.is_blank.Given as goal

abbrev pub invariant-loop-at : goal.invariant-loop-at
invariant-loop-at g l = record {
  begun : l.at ≤ l.end;
  fits : l.end ≤ g.D.Disk.size l.disk;
  read : IsOnlyRead g.D.Disk l.fn.disk l.disk false;
  blank : g.D.Disk.is_honest l.disk → is_zero (take l.at (g.D.Disk.content l.fn.disk)) ≡ true;
}

abbrev pub decreases-loop-at : goal.decreases-loop-at
decreases-loop-at g l = l.end - l.at
