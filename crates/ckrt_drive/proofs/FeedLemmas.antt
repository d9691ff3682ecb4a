-- What calls of a session keep of the input that its events took.
use Rattle.std.proofs.Common.{◌≡◌, ℕ, ◌≤◌, false, Option, Some, None, List, [], ◌∷◌, ◌++◌, Result, sym, ap, subst, append-nil}
use Rattle.ckrt_disk.specs.Disk.{IsImage}
use Rattle.ckrt_disk.specs.declared.disk.Disk.{Ghosts}
use Rattle.ckrt_recovery.specs.Accepts.{Accepts}
use Rattle.ckrt_recovery.proofs.AcceptLemmas.{accepts_kept}
use Rattle.ckrt_events.specs.declared.event.Event.{Event}
use Rattle.ckrt_stored.specs.Programs.{Program}
use Rattle.ckrt_drive.specs.Fed.{IsFed}
use Rattle.ckrt_drive.specs.Keeping.{IsCommit, KeepsInput, RecoversFedEither, RepresentsFed, SavesInput}
use Rattle.ckrt_drive.proofs.CallLemmas.{commit_keeps, commit_moment}
use Rattle.ckrt_drive.proofs.KeepLemmas.{fed_kept, keeps_more, keeps_same, uncalled}
use Rattle.ckrt_recovery.specs.View.{view_of}
use Rattle.ckrt_recovery.specs.declared.fault.CommitFault.{CommitFault}
use Rattle.ckrt_recovery.specs.declared.session.Session.{Session}
use Rattle.ckrt_drive.specs.Feeding.{Feeds, FeedsIfRecorded}

module _ {D : Type 0} {g : Ghosts D} (old new : Session D g) where
  -- nothing more was accepted
  no_more : (p : Program) (events : List Event) → RepresentsFed p events new → RepresentsFed p (events ++ []) new
  no_more p events h = subst (λ (l : List Event). RepresentsFed p l new) (sym (append-nil events)) h

  -- calls that leave the disk as it is, and take no event
  pub aside_feeds : (recorded : Option ℕ) → Accepts [] old new → new.acknowledged ≡ old.acknowledged → new.failed ≡ old.failed → new.disk ≡ old.disk → FeedsIfRecorded [] old new recorded
  aside_feeds None accepts acknowledged failed same = tt
  aside_feeds (Some taken) accepts acknowledged failed same = record {
    after = λ honest p events fed told. (
      accepts.represents honest p events fed.0,
      subst (λ (l : List Event). KeepsInput l new) (sym (append-nil events)) (keeps_same IsFed events old new acknowledged failed same fed.1),
    );
    any_moment = λ honest p events fed told. uncalled g.moment g.left_since old.disk new.disk (RecoversFedEither p events old) same;
  }

  -- an event that was taken
  pub event_feeds : (recorded : Option ℕ) (e : Event) → Accepts (e ∷ []) old new → new.acknowledged ≡ old.acknowledged → new.failed ≡ old.failed → old.failed ≡ false → new.disk ≡ old.disk → FeedsIfRecorded (e ∷ []) old new recorded
  event_feeds None e accepts acknowledged failed running same = tt
  event_feeds (Some taken) e accepts acknowledged failed running same = record {
    after = λ honest p events fed told. (accepts.represents honest p events fed.0, keeps_more IsFed events (e ∷ []) old new fed.0.acknowledged acknowledged failed running same fed.1);
    any_moment = λ honest p events fed told. uncalled g.moment g.left_since old.disk new.disk (RecoversFedEither p events old) same;
  }

  -- a checkpoint with a record
  pub saved_feeds : (taken : ℕ) → SavesInput taken old new → Feeds [] old new taken
  saved_feeds taken saves = record {
    after = λ honest p events fed told. no_more p events (saves honest p events fed told).after;
    any_moment = λ honest p events fed told. (saves honest p events fed told).any_moment;
  }

  -- a commit
  module _ (only_now : (disk : D) (image : List ℕ) → g.is_honest disk → g.left_since disk (g.moment disk) image → IsImage (g.content disk) (g.pending disk) image)
      (counts_now : (disk : D) (t : ℕ) (image : List ℕ) → g.is_honest disk → t ≤ g.moment disk → IsImage (g.content disk) (g.pending disk) image → g.left_since disk t image) where
    pub commit_feeds : (recorded : Option ℕ) (result : Result ℕ CommitFault) → IsCommit old result new → FeedsIfRecorded [] old new recorded
    commit_feeds None result is = tt
    commit_feeds (Some taken) result is = record {
      after = λ honest p events fed told. no_more p events (
        is.represents honest p events fed.0,
        commit_keeps p IsFed (fed_kept p) events old new fed.0 fed.1 honest (λ image left. only_now old.disk image (is.honest honest) left) (λ image le left. counts_now new.disk (g.moment old.disk) image honest le left) (is.any_moment honest p events fed.0) result is,
      );
      any_moment = λ honest p events fed told.
          commit_moment p IsFed (fed_kept p) events old new fed.0 fed.1 honest (λ image left. only_now old.disk image (is.honest honest) left) (λ image le left. counts_now new.disk (g.moment old.disk) image honest le left) (is.any_moment honest p events fed.0) result is;
    }

-- nothing was done
pub still_feeds : {D : Type 0} {g : Ghosts D} (recorded : Option ℕ) (old new : Session D g) → new ≡ old → FeedsIfRecorded [] old new recorded
still_feeds {D} {g} recorded old new same =
    let disk = ap (λ (s : Session D g). s.disk) same in
    aside_feeds old new recorded (accepts_kept old new (ap view_of same) disk) (ap (λ (s : Session D g). s.acknowledged) same) (ap (λ (s : Session D g). s.failed) same) disk
