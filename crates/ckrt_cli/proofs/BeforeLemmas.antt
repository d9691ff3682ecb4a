-- What a run leaves of its disk before its drive.
use Rattle.std.proofs.Common.{⊎_elim, ℕ, Bool, List, Result, arith}
use Rattle.ckrt_disk.specs.Disk.{IsImage}
use Rattle.ckrt_disk.specs.Frame.{IsOnlyRead, MayBeLeft}
use Rattle.ckrt_disk.specs.declared.disk.DeviceFault.{DeviceFault}
use Rattle.ckrt_disk.specs.declared.disk.Disk.{Ghosts}
use Rattle.ckrt_stored.specs.declared.schedule.ScheduleNote.{ScheduleNote}
use Rattle.ckrt_stored.proofs.ScheduleLemmas.{left_before}
use Rattle.ckrt_cli_disk.specs.Noting.{Notes}
use Rattle.ckrt_recovery.specs.Opening.{IsSyncedAndRead}
use Rattle.ckrt_drive.specs.Lengthening.{IsLengthened}
use Rattle.ckrt_drive.proofs.LengtheningLemmas.{as_it_was, noted_only, readied_through}
use Rattle.ckrt_drive.specs.Together.{IsLeftSince}

module _ {D : Type 0} (d : Ghosts D) where
  pub lengthened_through : (old mid left : D) → IsLengthened d old mid → IsLengthened d mid left → IsLengthened d old left
  lengthened_through old mid left first second = record {
    images = λ image may.
        let m = second.images image may in
        let s = first.images m.0 m.1 in
        (s.0, s.1, readied_through s.0 m.0 image s.2 m.2);
    inside = second.inside;
  }

  module _ (law : (disk : D) (image : List ℕ) → d.is_honest disk → d.left_since disk (d.moment disk) image → IsImage (d.content disk) (d.pending disk) image) where
    pub by_reading : (start end left : D) (failed : Bool) → IsOnlyRead d start end failed → d.is_honest end → IsLeftSince d start end left → IsLengthened d start left
    by_reading start end left failed read honest there = record {
      images = λ image may.
          let was : MayBeLeft d start image = ⊎_elim
          (λ (past : _). law start image (read.same.honest honest) past)
          (λ (none : ⊥). absurd none)
          ((read.any_moment honest).each (d.moment start) image (omega arith) (there.images image may)) in
          (image, was, as_it_was image);
      inside = there.inside;
    }

    pub by_noting : (schedule : ScheduleNote) (start end left : D) (answer : Result (Unit {0}) DeviceFault) → Notes d schedule start end answer → d.is_honest end → IsLeftSince d start end left → IsLengthened d start left
    by_noting schedule start end left answer notes honest there = record {
      images = λ image may. ⊎_elim
          (λ (past : d.left_since start (d.moment start) image). (image, law start image (notes.within.same.honest honest) past, as_it_was image))
          (λ (meant : _). let was = left_before d start image meant in (was.was, was.might, noted_only was.was image was.same))
          ((notes.within.any_moment honest).each (d.moment start) image (omega arith) (there.images image may));
      inside = there.inside;
    }

    pub by_recovering : (start end left : D) (failed : Bool) → IsSyncedAndRead d start end failed → d.is_honest end → IsLeftSince d start end left → IsLengthened d start left
    by_recovering start end left failed read honest there = record {
      images = λ image may.
          let was : MayBeLeft d start image = ⊎_elim
          (λ (past : _). law start image (read.same.honest honest) past)
          (λ (meant : _). meant)
          ((read.any_moment honest).each (d.moment start) image (omega arith) (there.images image may)) in
          (image, was, as_it_was image);
      inside = there.inside;
    }
