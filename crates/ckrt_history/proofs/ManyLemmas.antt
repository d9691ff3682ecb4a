-- A history beside a disk and an output, run after run.
use Rattle.std.proofs.Common.{◌≡◌, ◌⊎◌, inl, inr, ⊎_elim, ℕ, ◌≤◌, List, [], ◌∷◌, length, map, take, refl, sym, ◌∙◌, ap, subst, arith}
use Rattle.std.proofs.lemmas.List.{take_all}
use Rattle.ckrt_disk.specs.Disk.{IsImage}
use Rattle.ckrt_disk.specs.Frame.{MayBeLeft}
use Rattle.ckrt_disk.specs.Lists.{IsBeginningOf}
use Rattle.ckrt_disk.specs.declared.disk.Disk.{Ghosts}
use Rattle.ckrt_disk.proofs.ListLemmas.{begins_itself, begins_taken, begins_through}
use Rattle.ckrt_events.specs.declared.event.Event.{Event}
use Rattle.ckrt_look_recording.specs.Recording.{Recorded}
use Rattle.ckrt_recovery.specs.Represents.{acknowledged_of}
use Rattle.ckrt_recovery.specs.View.{View}
use Rattle.ckrt_stored.specs.Programs.{Program}
use Rattle.ckrt_stored.specs.Recorded.{RecoversRecorded}
use Rattle.ckrt_drive.specs.Recording.{OpensRecorded}
use Rattle.ckrt_drive.specs.Drives.{Keeps, OneDrive}
use Rattle.ckrt_drive.specs.Together.{Past, StandTogether, StandsRecorded, past}
use Rattle.ckrt_drive.proofs.DriveLemmas.{drive_keeps, itself}
use Rattle.ckrt_drive.proofs.LeftLemmas.{stands_formatted}
use Rattle.ckrt_drive.proofs.LengtheningLemmas.{recorded_stands_readied, stands_readied}
use Rattle.ckrt_drive.proofs.RecordingLemmas.{formatted_recorded}
use Rattle.ckrt_history.specs.Appending.{EndsAt}
use Rattle.ckrt_history.specs.Keeping.{KeepingStage, keeping_stage}
use Rattle.ckrt_history.specs.Kept.{IsKept, grown}
use Rattle.ckrt_history.specs.Many.{BeginBeside, GoesOnFrom, HasAtMost, IsDriveBeside, IsHistoryOf, IsKeepingRun, IsOpeningRun, IsReadyingRun, KeepsTheAcknowledged, RunsStandBeside, StandBeside, Three}
use Rattle.ckrt_history.proofs.BesideLemmas.{AreHonest, At, all_honest, stopped}
use Rattle.ckrt_history.proofs.KeptLemmas.{keeps_on}
use Rattle.ckrt_history.proofs.OpenedLemmas.{at_end, ends_opened, had_opening, held, recorded_opened, since_sync, together_opened}
use Rattle.ckrt_history.proofs.StandLemmas.{fewer_outputs, stands_opened}
use Rattle.ckrt_history.proofs.WhoseLemmas.{grown_history, grown_none}

-- WHERE THEY BEGIN

pub begins_beside : {D O K : Type 0} (d : Ghosts D) (o : Ghosts O) (k : Ghosts K) → BeginBeside d o k
begins_beside d o k p x made settled none = record {
  together = stands_formatted d o p x.disk x.output made settled;
  recorded = formatted_recorded d p (o.content x.output) x.disk made;
  kept = λ image r may has. absurd (none image r may has);
}

-- WHAT STANDS

-- a file of which only that may be left which might have been left before
at_most_before : {K : Type 0} (k : Ghosts K) (p : Program) (few all : List Event) (old new : K) → IsBeginningOf few all → ((image : List ℕ) → MayBeLeft k new image → MayBeLeft k old image) → HasAtMost k p few old → HasAtMost k p all new
at_most_before k p few all old new begins were most image r may has = let kept = most image r (were image may) has in (kept.0, begins_through kept.0 few all kept.1 begins, kept.2)

-- the drive of a run that keeps a history
abbrev drive_of : {D O K : Type 0} {d : Ghosts D} {o : Ghosts O} {k : Ghosts K} (x y : Three D O K) → IsKeepingRun d o k x y → OneDrive d o
drive_of {d = d} {o = o} {k = k} x y run = record {
  start = run.disk;
  options = run.options;
  file = run.input;
  first = run.first;
  stages = map (λ (z : KeepingStage d o k). z.stage) run.stages;
  last = run.last.stage;
  at = run.at;
}

module _ {D O K : Type 0} {d : Ghosts D} {o : Ghosts O} {k : Ghosts K} (law : (disk : D) (image : List ℕ) → d.is_honest disk → d.left_since disk (d.moment disk) image → IsImage (d.content disk) (d.pending disk) image)
    (output_law : (disk : O) (image : List ℕ) → o.is_honest disk → o.left_since disk (o.moment disk) image → IsImage (o.content disk) (o.pending disk) image)
    (file_law : (disk : K) (image : List ℕ) → k.is_honest disk → k.left_since disk (k.moment disk) image → IsImage (k.content disk) (k.pending disk) image)
    (counts : (disk : D) (t : ℕ) (image : List ℕ) → d.is_honest disk → t ≤ d.moment disk → IsImage (d.content disk) (d.pending disk) image → d.left_since disk t image)
    (output_counts : (disk : O) (t : ℕ) (image : List ℕ) → o.is_honest disk → t ≤ o.moment disk → IsImage (o.content disk) (o.pending disk) image → o.left_since disk t image)
    (file_counts : (disk : K) (t : ℕ) (image : List ℕ) → k.is_honest disk → t ≤ k.moment disk → IsImage (k.content disk) (k.pending disk) image → k.left_since disk t image) (opens : OpensRecorded d) where
  module _ (h : Past) (x : Three D O K) (stand : StandBeside d o k h x) where
    abbrev opened : List Event
    opened = (held h x stand).all

    -- what a stop left of the three stands, and goes on from what stood before
    record StandsOn (y : Three D O K) : Type 0 where
      pub now : Past
      pub goes_on : GoesOnFrom h now
      pub stands : StandBeside d o k now y

    same_past : GoesOnFrom h h
    same_past = record { program = refl; old = refl; acknowledged = begins_itself h.acknowledged }

    -- A DISK THAT IS MADE READY

    readying_stands : (y : Three D O K) → IsReadyingRun d o k x y → StandsOn y
    readying_stands y run = record {
      now = h;
      goes_on = same_past;
      stands = record {
        together =
            let there = stands_readied d o h x.disk y.disk x.output run.disk.images stand.together in
            record {
              images = λ image may. fewer_outputs h image (MayBeLeft o x.output) (MayBeLeft o y.output) (λ out left. output_law x.output out run.output_honest (run.output.images out left)) (there.images image may);
              inside = run.output.inside;
            };
        recorded = recorded_stands_readied d o h x.disk y.disk run.disk.images stand.recorded;
        kept = at_most_before k h.program h.acknowledged h.acknowledged x.file y.file (begins_itself h.acknowledged) (λ image may. file_law x.file image run.file_honest (run.file.images image may)) stand.kept;
      };
    }

    -- AN OPENING

    opening_stands : (y : Three D O K) → IsOpeningRun d o k x y → StandsOn y
    opening_stands y run = elim run.stop [
      | inl early ↦
          (let synced = run.opening.synced in
          let known = run.opening.reads.1.same.honest run.honest in
          let were : (image : List ℕ) → MayBeLeft d y.disk image → MayBeLeft d x.disk image = λ image may.
          ⊎_elim (λ (before : _). law x.disk image (synced.same.honest known) before) (λ (same : _). same) ((synced.any_moment known).each (d.moment x.disk) image (omega arith) (early.0.images image may)) in
          record {
            now = h;
            goes_on = same_past;
            stands = record {
              together = record {
                images = λ image may. fewer_outputs h image (MayBeLeft o x.output) (MayBeLeft o y.output) outputs (stand.together.images image (were image may));
                inside = run.output.inside;
              };
              recorded = λ image may. stand.recorded image (were image may);
              kept = at_most_before k h.program h.acknowledged h.acknowledged x.file y.file (begins_itself h.acknowledged) (λ image may. file_law x.file image (run.opening.same.honest run.file_honest) (early.1.images image may)) stand.kept;
            };
          })
      | inr late ↦
          (let same : (image : List ℕ) → MayBeLeft d y.disk image → image ≡ d.content x.disk = λ image may. since_sync law x.disk run.end x.file run.after run.opening run.honest late.0 image (late.1.images image may) in
          record {
            now = past h.program h.old opened h.accepted;
            goes_on = record { program = refl; old = refl; acknowledged = (held h x stand).begins };
            stands = record {
              together = together_opened h x stand y.disk same y.output outputs run.output.inside;
              recorded = recorded_opened h x stand y.disk same;
              kept = λ image r may has. ⊎_elim
                  (λ (before : _). had_opening h x stand image r (inl (file_law x.file image (run.opening.same.honest run.file_honest) before)) has)
                  (λ (joining : _). had_opening h x stand image r joining has)
                  ((run.opening.joins run.honest run.file_honest).each (k.moment x.file) image (omega arith) (late.2.images image may));
            };
          })
    ]
      where
        outputs : (image : List ℕ) → MayBeLeft o y.output image → MayBeLeft o x.output image
        outputs image may = output_law x.output image run.output_honest (run.output.images image may)

    -- A DRIVE THAT KEEPS IT

    -- what it begins with
    record Begins (y : Three D O K) (run : IsKeepingRun d o k x y) : Type 0 where
      pub recorded : Recorded
      pub of : IsHistoryOf h.program opened recorded
      pub at : At law output_law file_law file_counts h.program h.old opened recorded of run.options opened (keeping_stage k run.first run.opened.file run.opened.place)

    module _ (y : Three D O K) (run : IsKeepingRun d o k x y) where
      abbrev start : KeepingStage d o k
      start = keeping_stage k run.first run.opened.file run.opened.place

      are : AreHonest run.last
      are = record { disk = run.drive.honest; output = run.drive.output_honest; file = run.honest }

      were : AreHonest start
      were = all_honest run.options run.stages start run.last run.keeps are

      disk_is : (image : List ℕ) → MayBeLeft d run.disk image → image ≡ d.content x.disk
      disk_is image may = at_end law x.disk run.disk x.file run.opened.file run.opening (run.drive.recovered.disk.same.honest were.disk) run.synced image may

      begins : Begins y run
      begins =
          let has = held h x stand in
          let together : StandTogether d o (past h.program h.old opened h.accepted) run.disk run.first.output =
          subst (λ a. StandTogether d o (past h.program h.old opened h.accepted) run.disk a) (sym run.output) (together_opened h x stand run.disk disk_is x.output (λ image may. may) stand.together.inside) in
          let recorded : RecoversRecorded h.program opened has.to (d.content run.disk) = subst (λ (l : List ℕ). RecoversRecorded h.program opened has.to l) (sym (disk_is (d.content run.disk) (itself d run.disk))) has.held in
          let stands = stands_opened h.program h.old law output_law counts output_counts opens opened h.accepted has.to (drive_of x y run) run.drive were.disk were.output together recorded in
          let ends = ends_opened h x stand run.opened run.is_opened in
          let count = ap (λ (v : View). v.acknowledged) run.drive.recovered.view ∙ stands.represents.count in
          let known : acknowledged_of opened run.first.session ≡ opened = take_all run.first.session.acknowledged opened (omega (arith, count)) in
          record {
            recorded = ends.0;
            of = ends.2;
            at = record {
              more = begins_itself opened;
              stands = stands;
              has = record {
                begun = omega (arith, count);
                ends = subst (λ (l : List Event). EndsAt run.opened.place (k.content run.opened.file) (grown ends.0 (length opened) l)) (sym known) (subst (λ (q : Recorded). EndsAt run.opened.place (k.content run.opened.file) q) (sym (grown_none ends.0 opened)) ends.1);
                durable = run.durable;
              };
            };
          }

      keeping_stands : StandsOn y
      keeping_stands =
          let left = stopped law output_law file_law file_counts h.program h.old opened begins.recorded begins.of run.options run.stages start run.last opened run.at y run.keeps are begins.at run.stop in
          record {
            now = past h.program h.old left.few left.all;
            goes_on = record { program = refl; old = refl; acknowledged = begins_through h.acknowledged opened left.few (held h x stand).begins left.begins };
            stands = left.stands;
          }

    -- A DRIVE WITHOUT IT

    drive_stands : (y : Three D O K) → IsDriveBeside d o k x y → StandsOn y
    drive_stands y run =
        let v = run.drive in
        let together : StandTogether d o h v.start v.first.output = subst (λ a. StandTogether d o h v.start a) (sym run.output) (subst (λ q. StandTogether d o h q x.output) (sym run.start) stand.together) in
        let kept : Keeps h v = drive_keeps d o h.program h.old law output_law h.acknowledged h.accepted v together run.is in
        let begins = kept.still v.at y.disk y.output run.stop in
        record {
          now = past h.program h.old (take v.at.session.acknowledged kept.all) kept.all;
          goes_on = record { program = refl; old = refl; acknowledged = begins };
          stands = record {
            together = kept.any_moment v.at y.disk y.output run.stop;
            recorded = kept.recorded (subst (λ q. StandsRecorded d h q) (sym run.start) stand.recorded) v.at y.disk y.output run.stop;
            kept = at_most_before k h.program h.acknowledged (take v.at.session.acknowledged kept.all) x.file y.file begins (λ image may. file_law x.file image run.file_honest (run.file.images image may)) stand.kept;
          };
        }

    one_stands : (y : Three D O K) → IsReadyingRun d o k x y ⊎ IsOpeningRun d o k x y ⊎ IsKeepingRun d o k x y ⊎ IsDriveBeside d o k x y → StandsOn y
    one_stands y (inl run) = readying_stands y run
    one_stands y (inr (inl run)) = opening_stands y run
    one_stands y (inr (inr (inl run))) = keeping_stands y run
    one_stands y (inr (inr (inr run))) = drive_stands y run

  -- MANY

  pub runs_stand_beside : RunsStandBeside d o k
  runs_stand_beside h x [] stand runs = tt
  runs_stand_beside h x (y ∷ more) stand runs =
      let one = one_stands h x stand y runs.0 in
      (one.now, one.goes_on, one.stands, runs_stand_beside one.now y more one.stands runs.1)

  -- behind a run whose appends all went well
  pub keeps_acknowledged : KeepsTheAcknowledged d o k
  keeps_acknowledged h x y run stand goes =
      let first = begins h x stand y run in
      let all = opened h x stand in
      let kept : IsKept h.program first.recorded (length all) all run.last = keeps_on d o k run.options h.program first.recorded (length all) all run.stages (start h x stand y run) run.last goes run.drive.honest run.honest first.at.stands.represents first.at.has in (
        kept.all,
        kept.represents,
        record {
          recorded = grown first.recorded (length all) (acknowledged_of kept.all run.last.stage.session);
          ends = kept.has.ends;
          theirs = grown_history h.program all (acknowledged_of kept.all run.last.stage.session) first.recorded first.of (begins_taken run.last.stage.session.acknowledged all kept.all kept.has.begun kept.more);
          durable = kept.has.durable;
        },
      )
