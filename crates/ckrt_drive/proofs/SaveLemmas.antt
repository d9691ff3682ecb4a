-- What commits, checkpoints and events make of a session, as what a drive does.
use Rattle.std.proofs.Common.{◌≡◌, ◌-◌, ◌^◌, ℕ, nat_eq, Bool, true, false, if◌then◌else◌, Option, Some, None, List, [], ◌∷◌, ◌++◌, Result, Ok, Err, refl, sym, ◌∙◌, ap, subst, arith}
use Rattle.std.specs.Prelude.{IfErr, MatchOption}
use Rattle.std.proofs.lemmas.Bool.Decides.{nat_tests}
use Rattle.ckrt_disk.specs.Disk.{LeavesOnly}
use Rattle.ckrt_disk.specs.Frame.{WritesWithin}
use Rattle.ckrt_disk.specs.declared.disk.Disk.{Ghosts}
use Rattle.ckrt_events.specs.declared.event.Event.{Event}
use Rattle.ckrt_machine.specs.Events.{step}
use Rattle.ckrt_stored.specs.Programs.{Program}
use Rattle.ckrt_machine.specs.declared.event.Answer.{Answer}
use Rattle.ckrt_recovery.specs.declared.fault.CommitFault.{CommitFault}
use Rattle.ckrt_recovery.specs.declared.fault.CommitFault.TheVariants as commit
use Rattle.ckrt_recovery.specs.declared.fault.SubmitFault.{SubmitFault}
use Rattle.ckrt_recovery.specs.declared.fault.SubmitFault.TheVariants as submit
use Rattle.ckrt_recovery.specs.declared.session.Session.{Session}
use Rattle.ckrt_recovery.specs.Calls.{Checkpoints, Commits, checkpoint_refusal, is_device}
use Rattle.ckrt_recovery.specs.Represents.{Represents, RecoversToEither}
use Rattle.ckrt_recovery.specs.View.{View, view_of, refusal_of, refusal_when_running, after_event}
use Rattle.ckrt_recovery.proofs.AcceptLemmas.{accepts_all, accepts_commit, accepts_kept, accepts_still, acknowledges_checkpoint}
use Rattle.ckrt_recovery.proofs.AnswerLemmas.{at_err, at_ok}
use Rattle.ckrt_drive.specs.declared.fault.DriveFault.{DriveFault}
use Rattle.ckrt_drive.specs.declared.fault.DriveFault.TheVariants.{Device, GenerationsUsed, NoRecord, Refused}
use Rattle.ckrt_drive.specs.declared.step_done.StepDone.{StepDone}
use Rattle.ckrt_drive.specs.declared.step_done.StepDone.TheVariants.{Submitted, Committed, Checkpointed}
use Rattle.ckrt_drive.specs.Plan.{make_room, is_shortage, offered}
use Rattle.ckrt_drive.specs.Feeding.{FeedsIfRecorded, LacksRecord}
use Rattle.ckrt_drive.specs.Recording.{RecordsEvents}
use Rattle.ckrt_drive.specs.Steps.{Advances, aim}
use Rattle.ckrt_drive.proofs.FeedLemmas.{event_feeds, still_feeds}
use Rattle.ckrt_drive.proofs.RecordLemmas.{event_records, still_records}

-- CHOICES

used_by : (b c : Bool) → (if b then Some commit.Failed else if c then Some commit.GenerationsUsed else None) ≡ Some commit.GenerationsUsed → c ≡ true
used_by true c e = absurd (cc)
used_by false true e = refl
used_by false false e = absurd (cc)

failed_by : (b c : Bool) → (if b then Some commit.Failed else if c then Some commit.GenerationsUsed else None) ≡ Some commit.Failed → b ≡ true
failed_by true c e = refl
failed_by false true e = absurd (cc)
failed_by false false e = absurd (cc)

equal : (n m : ℕ) → nat_eq n m ≡ true → n ≡ m
equal n m e = grind (arith, nat_tests)

choice : (b : Bool) (x y : Result StepDone DriveFault) (c : Bool) → b ≡ c → (if b then x else y) ≡ (if c then x else y)
choice b x y c e = ap (λ d. if d then x else y) e

running : (b : Bool) (o : Option SubmitFault) → (if b then Some submit.Failed else o) ≡ None → b ≡ false
running true o e = absurd (cc)
running false o e = refl

abbrev submitted : Event → Answer → Result StepDone DriveFault
submitted e answer = Ok (Submitted e answer)

module _ {D : Type 0} {g : Ghosts D} (recorded : Option ℕ) where
  -- COMMITS

  pub advances_commit : (region : ℕ → Type 0) (n x : ℕ) (old new : Session D g) (r : Result ℕ CommitFault) → r ≡ Ok x → FeedsIfRecorded [] old new recorded → RecordsEvents [] old new
      → (g.is_honest new.disk → (p : Program) (events : List Event) → Represents p events old → LeavesOnly g.moment g.left_since old.disk new.disk (RecoversToEither p events old))
      → (g.is_honest new.disk → (p : Program) (events : List Event) → Represents p events old → Represents p events new)
      → WritesWithin g region n old.disk new.disk (is_device r)
      → Commits old r new
      → Advances (aim (Ok Committed) recorded) old new (Ok Committed)
  advances_commit region n x old new r is feeds records any_moment represents disk commits = record {
    done = (refl, at_ok r _ x is commits.ok);
    why = tt;
    accepts = accepts_commit region n old new r any_moment represents disk commits;
    feeds = feeds;
    records = records;
  }

  pub advances_failed : (region : ℕ → Type 0) (n : ℕ) (fault : CommitFault) (old new : Session D g) (r : Result ℕ CommitFault) → r ≡ Err fault → FeedsIfRecorded [] old new recorded → RecordsEvents [] old new
      → (g.is_honest new.disk → (p : Program) (events : List Event) → Represents p events old → LeavesOnly g.moment g.left_since old.disk new.disk (RecoversToEither p events old))
      → (g.is_honest new.disk → (p : Program) (events : List Event) → Represents p events old → Represents p events new)
      → WritesWithin g region n old.disk new.disk (is_device r)
      → Commits old r new
      → Advances (aim (Ok Committed) recorded) old new (Err Device)
  advances_failed region n fault old new r is feeds records any_moment represents disk commits = record {
    done = tt;
    why = at_err r _ fault is commits.err;
    accepts = accepts_commit region n old new r any_moment represents disk commits;
    feeds = feeds;
    records = records;
  }

  -- CHECKPOINTS

  pub advances_checkpoint : (region : ℕ → Type 0) (n x : ℕ) (old new : Session D g) (r : Result ℕ CommitFault) → r ≡ Ok x → FeedsIfRecorded [] old new recorded → RecordsEvents [] old new
      → (g.is_honest new.disk → (p : Program) (events : List Event) → Represents p events old → LeavesOnly g.moment g.left_since old.disk new.disk (RecoversToEither p events old))
      → (g.is_honest new.disk → (p : Program) (events : List Event) → Represents p events old → Represents p events new)
      → WritesWithin g region n old.disk new.disk (is_device r)
      → Checkpoints old r new
      → Advances (aim (Ok Checkpointed) recorded) old new (Ok Checkpointed)
  advances_checkpoint region n x old new r is feeds records any_moment represents disk k = record {
    done = (refl, at_ok r _ x is k.ok);
    why = tt;
    accepts = accepts_all region n old new r any_moment represents disk (acknowledges_checkpoint old new r k);
    feeds = feeds;
    records = records;
  }

  -- there is no place for the record
  pub advances_unrecorded : (s : Session D g) → LacksRecord s recorded → Advances (aim (Ok Checkpointed) recorded) s s (Err NoRecord)
  advances_unrecorded s lacks = record {
    done = tt;
    why = (refl, lacks, refl);
    accepts = accepts_kept s s refl refl;
    feeds = still_feeds recorded s s refl;
    records = still_records s s refl;
  }

  -- a checkpoint that a reason refuses: which reason it is
  reason : (old new : Session D g) (r : Result ℕ CommitFault) (fault : CommitFault) → r ≡ Err fault → (fault ≡ commit.Device → ⊥) → Checkpoints old r new → (checkpoint_refusal (view_of old) ≡ Some fault) × (new ≡ old)
  reason old new r fault is other k = by (checkpoint_refusal (view_of old)) k.refused k.unchanged
    where
      by : (o : Option CommitFault) → MatchOption o (IfErr r (λ e. e ≡ commit.Device)) (λ f. r ≡ Err f) → MatchOption o (Unit {0}) (λ _. new ≡ old) → (o ≡ Some fault) × (new ≡ old)
      by None h u = absurd (other (subst (λ q. IfErr q (λ e. e ≡ commit.Device)) is h))
      by (Some f) h u = (let same : f ≡ fault = cc in ap (λ (x : CommitFault). Some x) same, u)

  pub advances_used : (old new : Session D g) (r : Result ℕ CommitFault) → r ≡ Err commit.GenerationsUsed → Checkpoints old r new → Advances (aim (Ok Checkpointed) recorded) old new (Err GenerationsUsed)
  advances_used old new r is k =
      let why = reason old new r commit.GenerationsUsed is (λ no. absurd (cc)) k in
      record {
        done = tt;
        why = (equal old.progress.generation (2 ^ 64 - 1) (used_by old.failed (nat_eq old.progress.generation (2 ^ 64 - 1)) why.0), why.1);
        accepts = accepts_kept old new (ap view_of why.1) (ap (λ (s : Session D g). s.disk) why.1);
        feeds = still_feeds recorded old new why.1;
        records = still_records old new why.1;
      }

  -- of a session that had failed nothing changes
  still_failed : (old new : Session D g) → old.failed ≡ true → new ≡ old → view_of new ≡ record (view_of old) { failed = true }
  still_failed old new was same = ap view_of same ∙ ap (λ (b : Bool). record (view_of old) { failed = b }) was

  unsaved : (fault : CommitFault) (old new : Session D g) (r : Result ℕ CommitFault) → r ≡ Err fault → (fault ≡ commit.GenerationsUsed → ⊥) → Checkpoints old r new → view_of new ≡ record (view_of old) { failed = true }
  unsaved commit.Device old new r is other k = k.err is
  unsaved commit.Failed old new r is other k =
      let why = reason old new r commit.Failed is (λ e. absurd (cc)) k in
      still_failed old new (failed_by old.failed (nat_eq old.progress.generation (2 ^ 64 - 1)) why.0) why.1
  unsaved commit.GenerationsUsed old new r is other k = absurd (other refl)

  pub advances_unsaved : (region : ℕ → Type 0) (n : ℕ) (fault : CommitFault) (old new : Session D g) (r : Result ℕ CommitFault) → r ≡ Err fault → (fault ≡ commit.GenerationsUsed → ⊥) → FeedsIfRecorded [] old new recorded → RecordsEvents [] old new
      → (g.is_honest new.disk → (p : Program) (events : List Event) → Represents p events old → LeavesOnly g.moment g.left_since old.disk new.disk (RecoversToEither p events old))
      → (g.is_honest new.disk → (p : Program) (events : List Event) → Represents p events old → Represents p events new)
      → WritesWithin g region n old.disk new.disk (is_device r)
      → Checkpoints old r new
      → Advances (aim (Ok Checkpointed) recorded) old new (Err Device)
  advances_unsaved region n fault old new r is other feeds records any_moment represents disk k = record {
    done = tt;
    why = unsaved fault old new r is other k;
    accepts = accepts_all region n old new r any_moment represents disk (acknowledges_checkpoint old new r k);
    feeds = feeds;
    records = records;
  }

  -- EVENTS

  pub advances_taken : (e : Event) (answer : Answer) (old new : Session D g) → answer ≡ (step e old.progress.machine.state).answer → refusal_of (view_of old) e ≡ None → view_of new ≡ after_event (view_of old) e → new.disk ≡ old.disk
      → ((p : Program) (events : List Event) → Represents p events old → Represents p (events ++ e ∷ []) new)
      → Advances (aim (offered (view_of old) e (refusal_of (view_of old) e)) recorded) old new (Ok (Submitted e answer))
  advances_taken e answer old new is none view disk represents =
      let confirmed : new.progress.confirmed ≡ old.progress.confirmed = ap (λ (v : View). v.recovered.confirmed) view in
      let runs : old.failed ≡ false = running old.failed (refusal_when_running (view_of old) e) none in
      let failed = ap (λ (v : View). v.failed) view in
      let acknowledged = ap (λ (v : View). v.acknowledged) view in
      let accepts = accepts_still (e ∷ []) old new disk failed acknowledged (omega (arith, confirmed)) (λ was. let no : true ≡ false = sym was ∙ runs in absurd (cc)) represents in
      record {
        done = (ap (offered (view_of old) e) none ∙ ap (submitted e) (sym is), view);
        why = tt;
        accepts = accepts;
        feeds = event_feeds old new recorded e accepts acknowledged failed runs disk;
        records = event_records old new e accepts acknowledged failed runs disk;
      }

  pub advances_short : (e : Event) (why : SubmitFault) (old mid new : Session D g) (r : Result StepDone DriveFault) → refusal_of (view_of old) e ≡ Some why → mid ≡ old → is_shortage why ≡ true
      → Advances (aim (Ok (make_room (view_of mid))) recorded) mid new r → Advances (aim (offered (view_of old) e (refusal_of (view_of old) e)) recorded) old new r
  advances_short e why old mid new r is same short saved =
      let planned = ap (offered (view_of old) e) is ∙ choice (is_shortage why) (Ok (make_room (view_of old))) (Err (Refused why)) true short in
      subst (λ (q : Result StepDone DriveFault). Advances (aim q recorded) old new r) (sym planned) (subst (λ (s : Session D g). Advances (aim (Ok (make_room (view_of s))) recorded) s new r) same saved)

  pub advances_refused : (e : Event) (why : SubmitFault) (old new : Session D g) → refusal_of (view_of old) e ≡ Some why → new ≡ old → is_shortage why ≡ false
      → Advances (aim (offered (view_of old) e (refusal_of (view_of old) e)) recorded) old new (Err (Refused why))
  advances_refused e why old new is same long = record {
    done = tt;
    why = (ap (offered (view_of old) e) is ∙ choice (is_shortage why) (Ok (make_room (view_of old))) (Err (Refused why)) false long, same);
    accepts = accepts_kept old new (ap view_of same) (ap (λ (s : Session D g). s.disk) same);
    feeds = still_feeds recorded old new same;
    records = still_records old new same;
  }
