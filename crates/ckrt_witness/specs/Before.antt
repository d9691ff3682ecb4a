-- What meets the premises of the laws of what comes before a drive: a disk is read, and recovered.
use Rattle.std.specs.Prelude.{ℕ, true, false, List}
use Rattle.ckrt_disk.specs.Frame.{IsOnlyRead}
use Rattle.ckrt_disk.specs.declared.disk.Disk.{Ghosts}
use Rattle.ckrt_drive.specs.Stages.{Stage}
use Rattle.ckrt_recovery.specs.Opening.{IsSyncedAndRead}
use Rattle.ckrt_drive.specs.Drives.{StopLeaves}
use Rattle.ckrt_drive.specs.Together.{IsLeftSince}
use Rattle.ckrt_witness.specs.Drives.{Drove, IsReopened}

-- A stop in a drive left one disk and one output, and a stop since left another of each; meanwhile the disk came to be `end`.
pub record StopsAgain {D O : Type 0} (d : Ghosts D) (o : Ghosts O) (start end : D) : Type 0 where
  pub stages : List (Stage d o)
  pub first : Stage d o
  pub at : Stage d o
  pub output : O
  pub stopped : StopLeaves stages first at start output
  pub honest : d.is_honest end
  pub output_honest : o.is_honest output
  pub left : D
  pub left_since : IsLeftSince d start end left
  pub other : O
  pub output_since : IsLeftSince o output output other

-- a disk that was read, and one that failed its recovery, for which all premises hold
pub record BeforeWitness {D O : Type 0} (d : Ghosts D) (o : Ghosts O) : Type 0 where
  pub start : D
  pub looked : D
  pub read : IsOnlyRead d start looked false
  pub by_read : StopsAgain d o start looked
  pub begun : D
  pub broken : D
  pub recovery : IsSyncedAndRead d begun broken true
  pub by_recovery : StopsAgain d o begun broken

-- A drive, and two disks that are what a stop behind it left. One was read, and the other failed its recovery; then each was stopped again, with
-- the output.
pub record StoppedBefore {D O : Type 0} (d : Ghosts D) (o : Ghosts O) : Type 0 where
  pub start : D
  pub output : O
  pub file : List ℕ
  pub end : D
  pub left : O
  pub one : Drove d o start output file end left
  pub opened : O
  pub output_again : IsReopened o left opened
  pub output_honest : o.is_honest opened
  pub other : O
  pub other_again : IsReopened o opened other
  pub next : D
  pub next_again : IsReopened d end next
  pub looked : D
  pub read : IsOnlyRead d next looked false
  pub behind_read : D
  pub read_again : IsReopened d looked behind_read
  pub begun : D
  pub begun_again : IsReopened d end begun
  pub broken : D
  pub recovery : IsSyncedAndRead d begun broken true
  pub behind_recovery : D
  pub recovery_again : IsReopened d broken behind_recovery
