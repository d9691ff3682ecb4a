-- What a stop leaves of a disk that was read, or that failed its recovery, after the one that a drive left.
use Rattle.std.proofs.Common.{ℕ, ◌≤◌, List, sym, subst}
use Rattle.ckrt_disk.specs.Disk.{IsImage}
use Rattle.ckrt_disk.specs.declared.disk.Disk.{Ghosts}
use Rattle.ckrt_drive.specs.Drives.{StopLeaves}
use Rattle.ckrt_drive.specs.Together.{IsLeftSince}
use Rattle.ckrt_drive.proofs.LeftLemmas.{left_image}
use Rattle.ckrt_witness.specs.Before.{BeforeWitness, StoppedBefore, StopsAgain}
use Rattle.ckrt_witness.specs.Drives.{IsReopened}
use Rattle.ckrt_witness.proofs.WitnessLemmas.{again, stop_at_end}

module _ {D O : Type 0} (d : Ghosts D) (o : Ghosts O) (counts : (disk : D) (t : ℕ) (image : List ℕ) → d.is_honest disk → t ≤ d.moment disk → IsImage (d.content disk) (d.pending disk) image → d.left_since disk t image)
    (reads : (disk : D) → d.is_honest disk → IsImage (d.content disk) (d.pending disk) (d.content disk))
    (output_counts : (disk : O) (t : ℕ) (image : List ℕ) → o.is_honest disk → t ≤ o.moment disk → IsImage (o.content disk) (o.pending disk) image → o.left_since disk t image)
    (output_reads : (disk : O) → o.is_honest disk → IsImage (o.content disk) (o.pending disk) (o.content disk)) where
  -- a device that is made anew with the bytes of another one is what a power cut left since an earlier moment
  since : (start end next : D) → d.moment start ≤ d.moment end → IsReopened d end next → IsLeftSince d start end next
  since start end next later is = left_image d start end next (d.content end) (counts end (d.moment start) (d.content end) is.honest later (reads end is.honest)) is.same is.settled

  module _ (t : StoppedBefore d o) where
    -- behind the last step of the drive
    stopped : (disk : D) → IsReopened d t.end disk → StopLeaves t.one.drive.stages t.one.drive.first t.one.drive.last disk t.opened
    stopped disk is =
        let v = t.one.drive in
        let disk_left : IsLeftSince d t.end t.end disk = again d counts reads t.end disk is in
        let output_left : IsLeftSince o t.left t.left t.opened = again o output_counts output_reads t.left t.opened t.output_again in
        stop_at_end d o v.options v.stages v.first v.last disk t.opened t.one.is.goes
        (subst (λ (q : D). IsLeftSince d q q disk) (sym t.one.ends) disk_left)
        (subst (λ (q : O). IsLeftSince o q q t.opened) (sym t.one.leaves) output_left)

    stops_again : (start end left : D) → IsReopened d t.end start → d.moment start ≤ d.moment end → IsReopened d end left → StopsAgain d o start end
    stops_again start end left begun later is = record {
      stages = t.one.drive.stages;
      first = t.one.drive.first;
      at = t.one.drive.last;
      output = t.opened;
      stopped = stopped start begun;
      honest = is.honest;
      output_honest = t.output_honest;
      left = left;
      left_since = since start end left later is;
      other = t.other;
      output_since = again o output_counts output_reads t.opened t.other t.other_again;
    }

    pub before_met : BeforeWitness d o
    before_met = record {
      start = t.next;
      looked = t.looked;
      read = t.read;
      by_read = stops_again t.next t.looked t.behind_read t.next_again (t.read.any_moment t.read_again.honest).later t.read_again;
      begun = t.begun;
      broken = t.broken;
      recovery = t.recovery;
      by_recovery = stops_again t.begun t.broken t.behind_recovery t.begun_again (t.recovery.any_moment t.recovery_again.honest).later t.recovery_again;
    }
