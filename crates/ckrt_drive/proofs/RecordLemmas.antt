-- What calls of a session leave of its events on its disk, as it has recorded them.
use Rattle.std.proofs.Common.{◌≡◌, inl, inr, ⊎_elim, ℕ, ◌-◌, ◌≤◌, Bool, true, false, List, [], ◌∷◌, ◌++◌, length, Result, Ok, refl, sym, ap, subst, arith, append-nil}
use Rattle.ckrt_disk.specs.Disk.{IsImage, IsWithin}
use Rattle.ckrt_disk.specs.Frame.{IsSameOutside, MayBeLeft}
use Rattle.ckrt_disk.specs.declared.disk.Disk.{Ghosts}
use Rattle.ckrt_disk.proofs.Images.{wider_image}
use Rattle.ckrt_disk.proofs.ListLemmas.{take_begins}
use Rattle.ckrt_events.specs.declared.event.Event.{Event}
use Rattle.ckrt_stored.specs.Frame.{IsSpare, in_other_area}
use Rattle.ckrt_stored.specs.Programs.{Program}
use Rattle.ckrt_stored.specs.Progress.{IsOtherLeft, RecoversToOldOrNew, recovered_of}
use Rattle.ckrt_stored.specs.Recorded.{HasRecorded}
use Rattle.ckrt_stored.specs.Recovery.{Recovers}
use Rattle.ckrt_recovery.specs.Accepts.{Accepts}
use Rattle.ckrt_recovery.specs.Calls.{Checkpoints, Saves, WritesOtherArea, WritesSpare}
use Rattle.ckrt_recovery.specs.Represents.{RecoversAtAnyMoment, Represents, RepresentsSame, acknowledged_of}
use Rattle.ckrt_recovery.specs.View.{view_of}
use Rattle.ckrt_recovery.specs.declared.fault.CommitFault.{CommitFault}
use Rattle.ckrt_recovery.specs.declared.session.Session.{Session}
use Rattle.ckrt_recovery.proofs.AcceptLemmas.{accepts_kept}
use Rattle.ckrt_recovery.proofs.CommitLemmas.{behind_now}
use Rattle.ckrt_drive.specs.Keeping.{IsCommit}
use Rattle.ckrt_drive.specs.Recording.{KeepsRecorded, RecordsEvents, RecoversRecordedEither, RepresentsRecorded}
use Rattle.ckrt_drive.specs.Slot.{slot_at, slot_offset}
use Rattle.ckrt_drive.proofs.CallLemmas.{commit_keeps, commit_moment, save_keeps, save_moment, slot_keeps, slot_moment}
use Rattle.ckrt_drive.proofs.KeepLemmas.{EitherOf, IsKept, Written, had_now, keeps_more, keeps_same, moments_back, now, uncalled, written_alone}
use Rattle.ckrt_drive.proofs.RecordedLemmas.{appended_recorded, appending_recorded, recorded_as_recovered, saved_recorded, spared_recorded, unsaved_recorded}
use Rattle.ckrt_drive.proofs.SavingLemmas.{failed_refused, refused_same}

-- IMAGES

-- what the disk has recorded is kept over commits and over writes of a slot
pub recorded_kept : (p : Program) → IsKept p (HasRecorded p)
recorded_kept p = record {
  as_many = recorded_as_recovered p;
  appending = appending_recorded p;
  appended = appended_recorded p;
  spared = λ events before image r recovers still same is. spared_recorded p events before image r recovers (wider_image (IsWithin (slot_at r.config (1 - r.area)) 40) (IsSpare r.config) before image (λ i w. omega (arith, w.0)) same) is;
}

module _ {D : Type 0} {g : Ghosts D} (p : Program) (events : List Event) (old : Session D g) (reps : Represents p events old) (keeps : KeepsRecorded p events old) (running : old.failed ≡ false) where
  -- and over checkpoints: the program as it is, in the other area
  saved_all : (image : List ℕ) → IsSameOutside (Written old) (g.content old.disk) image → Recovers image (Ok (in_other_area (recovered_of old.progress))) → HasRecorded p events image
  saved_all image same saved = saved_recorded p (acknowledged_of events old) events old.progress (g.content old.disk) image (now p events old reps running) (behind_now p events old reps running) saved
      (written_alone p events old reps running image same) (take_begins old.acknowledged events) reps.count reps.state (had_now p (HasRecorded p) (recorded_kept p) events old reps keeps running)

  -- at any moment
  saving_either : (image : List ℕ) → IsSameOutside (Written old) (g.content old.disk) image → IsOtherLeft old.progress (g.content old.disk) image → RecoversToOldOrNew old.progress (now p events old reps running) image → EitherOf (HasRecorded p) events old image
  saving_either image same other to = ⊎_elim
      (λ (still : _). inl (unsaved_recorded p (acknowledged_of events old) old.progress (g.content old.disk) image (now p events old reps running) (behind_now p events old reps running) still
      (written_alone p events old reps running image same) other (had_now p (HasRecorded p) (recorded_kept p) events old reps keeps running)))
      (λ (saved : _). inr (saved_all image same saved)) to

-- SESSIONS

module _ {D : Type 0} {g : Ghosts D} (old new : Session D g) where
  -- nothing more was accepted
  no_more : (p : Program) (events : List Event) → RepresentsRecorded p events new → RepresentsRecorded p (events ++ []) new
  no_more p events h = subst (λ (l : List Event). RepresentsRecorded p l new) (sym (append-nil events)) h

  -- calls that leave the disk as it is, and take no event
  pub aside_records : Accepts [] old new → new.acknowledged ≡ old.acknowledged → new.failed ≡ old.failed → new.disk ≡ old.disk → RecordsEvents [] old new
  aside_records accepts acknowledged failed same = record {
    after = λ honest p events h. (
      accepts.represents honest p events h.0,
      subst (λ (l : List Event). KeepsRecorded p l new) (sym (append-nil events)) (keeps_same (HasRecorded p) events old new acknowledged failed same h.1),
    );
    any_moment = λ honest p events h. uncalled g.moment g.left_since old.disk new.disk (RecoversRecordedEither p events old) same;
  }

  -- an event that was taken
  pub event_records : (e : Event) → Accepts (e ∷ []) old new → new.acknowledged ≡ old.acknowledged → new.failed ≡ old.failed → old.failed ≡ false → new.disk ≡ old.disk → RecordsEvents (e ∷ []) old new
  event_records e accepts acknowledged failed running same = record {
    after = λ honest p events h. (accepts.represents honest p events h.0, keeps_more (HasRecorded p) events (e ∷ []) old new h.0.acknowledged acknowledged failed running same h.1);
    any_moment = λ honest p events h. uncalled g.moment g.left_since old.disk new.disk (RecoversRecordedEither p events old) same;
  }

-- nothing was done
pub still_records : {D : Type 0} {g : Ghosts D} (old new : Session D g) → new ≡ old → RecordsEvents [] old new
still_records {D} {g} old new same =
    let disk = ap (λ (s : Session D g). s.disk) same in
    aside_records old new (accepts_kept old new (ap view_of same) disk) (ap (λ (s : Session D g). s.acknowledged) same) (ap (λ (s : Session D g). s.failed) same) disk

-- a call behind one that leaves the session as it is seen
pub records_on : {D : Type 0} {g : Ghosts D} (old mid new : Session D g) → (g.is_honest new.disk → g.is_honest mid.disk) → view_of mid ≡ view_of old → RecordsEvents [] old mid → RecordsEvents [] mid new → RecordsEvents [] old new
records_on {g = g} old mid new honest_back view first second = record {
  after = λ honest p events h. second.after honest p events (middle honest p events h);
  any_moment = λ honest p events h. moments_back p (HasRecorded p) events old mid new view (first.any_moment (honest_back honest) p events h) (second.any_moment honest p events (middle honest p events h));
}
  where
    middle : g.is_honest new.disk → (p : Program) (events : List Event) → RepresentsRecorded p events old → RepresentsRecorded p events mid
    middle honest p events h = subst (λ (l : List Event). RepresentsRecorded p l mid) (append-nil events) (first.after (honest_back honest) p events h)

-- COMMITS AND CHECKPOINTS, by two laws of the disk

module _ {D : Type 0} {g : Ghosts D} (old new : Session D g)
    (only_now : (disk : D) (image : List ℕ) → g.is_honest disk → g.left_since disk (g.moment disk) image → IsImage (g.content disk) (g.pending disk) image)
    (counts_now : (disk : D) (t : ℕ) (image : List ℕ) → g.is_honest disk → t ≤ g.moment disk → IsImage (g.content disk) (g.pending disk) image → g.left_since disk t image) where
  before_only : g.is_honest old.disk → (image : List ℕ) → g.left_since old.disk (g.moment old.disk) image → MayBeLeft g old.disk image
  before_only honest image left = only_now old.disk image honest left

  behind_counts : g.is_honest new.disk → (image : List ℕ) → g.moment old.disk ≤ g.moment new.disk → MayBeLeft g new.disk image → g.left_since new.disk (g.moment old.disk) image
  behind_counts honest image le left = counts_now new.disk (g.moment old.disk) image honest le left

  -- a commit
  pub commit_records : (result : Result ℕ CommitFault) → IsCommit old result new → RecordsEvents [] old new
  commit_records result is = record {
    after = λ honest p events h. no_more old new p events (
      is.represents honest p events h.0,
      commit_keeps p (HasRecorded p) (recorded_kept p) events old new h.0 h.1 honest (before_only (is.honest honest)) (behind_counts honest) (is.any_moment honest p events h.0) result is,
    );
    any_moment = λ honest p events h. commit_moment p (HasRecorded p) (recorded_kept p) events old new h.0 h.1 honest (before_only (is.honest honest)) (behind_counts honest) (is.any_moment honest p events h.0) result is;
  }

  -- a write of the other area's slot
  pub slot_records : (bytes : List ℕ) → length bytes ≡ 40 → (result : Result (Unit {0}) CommitFault) → RecoversAtAnyMoment old new → (g.is_honest new.disk → RepresentsSame old new) → WritesSpare old (slot_offset (1 - old.progress.area)) bytes result new → RecordsEvents [] old new
  slot_records bytes size result any same writes = record {
    after = λ honest p events h. no_more old new p events (
      same honest p events h.0,
      slot_keeps p (HasRecorded p) (recorded_kept p) events old new h.0 h.1 honest (before_only (writes.within.same.honest honest)) (behind_counts honest) (any honest p events h.0) bytes size result writes (same honest),
    );
    any_moment = λ honest p events h.
        slot_moment p (HasRecorded p) (recorded_kept p) events old new h.0 h.1 honest (before_only (writes.within.same.honest honest)) (behind_counts honest) (any honest p events h.0) bytes size result writes;
  }

  -- a checkpoint; of a session that has failed it changes nothing
  pub checkpoint_records : (result : Result ℕ CommitFault) → RecoversAtAnyMoment old new → (g.is_honest new.disk → RepresentsSame old new) → Saves old result new → WritesOtherArea old result new → Checkpoints old result new → RecordsEvents [] old new
  checkpoint_records result any same saves writes is = by_failed old.failed refl
    where
      by_failed : (b : Bool) → old.failed ≡ b → RecordsEvents [] old new
      by_failed true failed = still_records old new (refused_same old new result (failed_refused old failed) is)
      by_failed false running = record {
        after = λ honest p events h. no_more old new p events (
          same honest p events h.0,
          save_keeps p (HasRecorded p) (recorded_kept p) events old new h.0 h.1 honest (before_only (writes.within.same.honest honest)) (behind_counts honest) (any honest p events h.0) running
              (saving_either p events old h.0 h.1 running) (saved_all p events old h.0 h.1 running) result saves writes is (same honest),
        );
        any_moment = λ honest p events h. save_moment p (HasRecorded p) (recorded_kept p) events old new h.0 h.1 honest (before_only (writes.within.same.honest honest)) (behind_counts honest) (any honest p events h.0) running
            (saving_either p events old h.0 h.1 running) (saved_all p events old h.0 h.1 running) result saves writes;
      }
