-- A drive that keeps a history, step by step: what a stop at any moment leaves of its disk, its output and the history's file.
use Rattle.std.proofs.Common.{◌≡◌, inl, inr, ℕ, ◌≤◌, List, [], ◌∷◌, ◌++◌, length, Result, Ok, sym, subst, arith}
use Rattle.ckrt_disk.specs.Disk.{IsImage}
use Rattle.ckrt_disk.specs.Frame.{MayBeLeft}
use Rattle.ckrt_disk.specs.Lists.{IsBeginningOf}
use Rattle.ckrt_disk.specs.declared.disk.Disk.{Ghosts}
use Rattle.ckrt_disk.proofs.ListLemmas.{begins_itself, begins_more, begins_taken, begins_through, taken_begins}
use Rattle.ckrt_events.specs.declared.event.Event.{Event}
use Rattle.ckrt_look_recording.specs.Recording.{Recorded}
use Rattle.ckrt_recovery.specs.Represents.{acknowledged_of}
use Rattle.ckrt_stored.specs.Programs.{Program}
use Rattle.ckrt_drive.specs.Stages.{Stage}
use Rattle.ckrt_drive.specs.Steps.{accepted_in}
use Rattle.ckrt_drive.specs.declared.options.Options.{Options}
use Rattle.ckrt_drive.specs.Together.{IsLeftSince, past}
use Rattle.ckrt_history.specs.History.{HasHistory}
use Rattle.ckrt_history.specs.Keeping.{Advances, Keeps, KeepingStage, owed_by}
use Rattle.ckrt_history.specs.Kept.{HasAcknowledged, grown}
use Rattle.ckrt_history.specs.Many.{AdvancesAll, HasAtMost, IsHistoryOf, StandBeside, StopLeavesBeside, Three}
use Rattle.ckrt_history.specs.declared.keeping_fault.KeepingFault.{KeepingFault}
use Rattle.ckrt_history.specs.declared.opened.OpenHistory.{OpenHistory}
use Rattle.ckrt_history.proofs.HistoryLemmas.{recorded_once}
use Rattle.ckrt_history.proofs.KeptLemmas.{advance_honest, left_after, left_before, step_kept}
use Rattle.ckrt_history.proofs.StandLemmas.{Stands, left_here, left_within, stands_on}
use Rattle.ckrt_history.proofs.WhoseLemmas.{grown_history}

-- the three are honest at a stage
pub record AreHonest {D O K : Type 0} {d : Ghosts D} {o : Ghosts O} {k : Ghosts K} (z : KeepingStage d o k) : Type 0 where
  pub disk : d.is_honest z.stage.session.disk
  pub output : o.is_honest z.stage.output
  pub file : k.is_honest z.file

-- what a stop left of the three stands, with all acknowledged that was opened
pub record IsLeft {D O K : Type 0} (d : Ghosts D) (o : Ghosts O) (k : Ghosts K) (p : Program) (old : List ℕ) (opened : List Event) (y : Three D O K) : Type 0 where
  pub few : List Event
  pub all : List Event
  pub begins : IsBeginningOf opened few
  pub stands : StandBeside d o k (past p old few all) y

-- each image of a file has what was opened, and some events behind that
at_most : {K : Type 0} (k : Ghosts K) (p : Program) (opened : List Event) (r : Recorded) → IsHistoryOf p opened r → (few : List Event) (file : K)
    → ((image : List ℕ) → MayBeLeft k file image → (front : List Event) × IsBeginningOf opened front × IsBeginningOf front few × HasHistory image (grown r (length opened) front)) → HasAtMost k p few file
at_most k p opened r is few file each image q may has =
    let had = each image may in
    let same : grown r (length opened) had.0 ≡ q = recorded_once image (grown r (length opened) had.0) q had.3 has in
    (had.0, had.2, subst (λ (s : Recorded). IsHistoryOf p had.0 s) same (grown_history p opened had.0 r is had.1))

-- an append takes its time
later : {K : Type 0} (k : Ghosts K) (place next : OpenHistory) (owed : List ℕ) (old new : K) (kept : Result (Unit {0}) KeepingFault) → Keeps k place owed old new next kept → k.is_honest new → k.moment old ≤ k.moment new
later k place next [] old new kept keeps honest = subst (λ f. k.moment old ≤ k.moment f) (sym keeps.0) (omega arith)
later k place next (byte ∷ more) old new kept keeps honest = (keeps.0.any_moment honest).later

module _ {D O K : Type 0} {d : Ghosts D} {o : Ghosts O} {k : Ghosts K} (options : Options) where
  -- all were honest before
  step_honest : (x z : KeepingStage d o k) (kept : Result (Unit {0}) KeepingFault) → Advances options x z kept → AreHonest z → AreHonest x
  step_honest x z kept advances are = record {
    disk = advances.step.steps.accepts.honest are.disk;
    output = advances.step.steps.writes.honest are.output;
    file = advance_honest options x z kept advances are.file;
  }

  pub all_honest : (stages : List (KeepingStage d o k)) (x last : KeepingStage d o k) → AdvancesAll options stages x last → AreHonest last → AreHonest x
  all_honest [] x last goes are = subst (λ (q : KeepingStage d o k). AreHonest q) goes are
  all_honest (z ∷ []) x last goes are = step_honest x z goes.0.0 goes.0.1 (subst (λ (q : KeepingStage d o k). AreHonest q) goes.1 are)
  all_honest (z ∷ w ∷ more) x last goes are = step_honest x z (Ok tt) goes.0 (all_honest (w ∷ more) z last goes.1 are)

-- STEP BY STEP

module _ {D O K : Type 0} {d : Ghosts D} {o : Ghosts O} {k : Ghosts K} (law : (disk : D) (image : List ℕ) → d.is_honest disk → d.left_since disk (d.moment disk) image → IsImage (d.content disk) (d.pending disk) image)
    (output_law : (disk : O) (image : List ℕ) → o.is_honest disk → o.left_since disk (o.moment disk) image → IsImage (o.content disk) (o.pending disk) image)
    (file_law : (disk : K) (image : List ℕ) → k.is_honest disk → k.left_since disk (k.moment disk) image → IsImage (k.content disk) (k.pending disk) image)
    (file_counts : (disk : K) (t : ℕ) (image : List ℕ) → k.is_honest disk → t ≤ k.moment disk → IsImage (k.content disk) (k.pending disk) image → k.left_since disk t image) where
  module _ (p : Program) (old : List ℕ) (opened : List Event) (r : Recorded) (is : IsHistoryOf p opened r) (options : Options) where
    -- where a drive stands with its history after these events
    pub record At (events : List Event) (x : KeepingStage d o k) : Type 0 where
      pub more : IsBeginningOf opened events
      pub stands : Stands p old events x.stage
      pub has : HasAcknowledged r (length opened) events x

    module _ (events : List Event) (x : KeepingStage d o k) (at : At events x) (file_honest : k.is_honest x.file) where
      abbrev few : List Event
      few = acknowledged_of events x.stage.session

      begins_few : IsBeginningOf opened few
      begins_few = begins_taken x.stage.session.acknowledged opened events at.has.begun at.more

      -- while the file isn't called
      file_here : (file : K) → IsLeftSince k x.file x.file file → HasAtMost k p few file
      file_here file left = at_most k p opened r is few file (λ image may.
          (few, begins_few, begins_itself few, left_before options p r (length opened) events x x at.stands.represents at.has image (file_law x.file image file_honest (left.images image may))))

      here : (y : Three D O K) → d.is_honest x.stage.session.disk → o.is_honest x.stage.output → IsLeftSince d x.stage.session.disk x.stage.session.disk y.disk → IsLeftSince o x.stage.output x.stage.output y.output → IsLeftSince k x.file x.file y.file → IsLeft d o k p old opened y
      here y honest whole disk_left output_left file_left =
          let left = left_here p old law output_law events x.stage honest whole at.stands y.disk y.output disk_left output_left in
          record { few = few; all = events; begins = begins_few; stands = record { together = left.together; recorded = left.recorded; kept = file_here y.file file_left } }

      module _ (z : KeepingStage d o k) (kept : Result (Unit {0}) KeepingFault) (advances : Advances options x z kept) (honest : d.is_honest z.stage.session.disk) (whole : o.is_honest z.stage.output) (file_after : k.is_honest z.file) where
        abbrev all : List Event
        all = events ++ accepted_in advances.step.result

        on : Stands p old all z.stage
        on = stands_on p old law output_law options events x.stage z.stage advances.step honest whole at.stands

        -- within the step
        within : (y : Three D O K) → IsLeftSince d x.stage.session.disk z.stage.session.disk y.disk → IsLeftSince o x.stage.output z.stage.output y.output → IsLeftSince k x.file x.file y.file → IsLeft d o k p old opened y
        within y disk_left output_left file_left =
            let left = left_within p old law output_law options events x.stage z.stage advances.step honest whole at.stands y.disk y.output disk_left output_left in
            record { few = few; all = all; begins = begins_few; stands = record { together = left.together; recorded = left.recorded; kept = file_here y.file file_left } }

        -- while its batch is appended, or behind that
        behind : (y : Three D O K) → IsLeftSince d z.stage.session.disk z.stage.session.disk y.disk → IsLeftSince o z.stage.output z.stage.output y.output → ((image : List ℕ) → MayBeLeft k y.file image → k.left_since z.file (k.moment x.file) image) → IsLeft d o k p old opened y
        behind y disk_left output_left file_left =
            let left = left_here p old law output_law all z.stage honest whole on y.disk y.output disk_left output_left in
            let many = acknowledged_of all z.stage.session in
            let steps = advances.step.steps in
            let further : IsBeginningOf few many = taken_begins x.stage.session.acknowledged z.stage.session.acknowledged events (accepted_in advances.step.result) at.stands.represents.acknowledged steps.accepts.acknowledged in
            record {
              few = many;
              all = all;
              begins = begins_through opened few many begins_few further;
              stands = record {
                together = left.together;
                recorded = left.recorded;
                kept = at_most k p opened r is many y.file (λ image may.
                    let has = left_after options p r (length opened) events x z at.stands.represents at.has file_law file_honest advances.step.supply advances.step.result kept steps advances.keeps file_after image (file_left image may) in
                    (has.0, begins_through opened few has.0 begins_few has.1, has.2, has.3));
              };
            }

      -- where the batch was appended
      next : (z : KeepingStage d o k) (advances : Advances options x z (Ok tt)) → d.is_honest z.stage.session.disk → o.is_honest z.stage.output → k.is_honest z.file → At (events ++ accepted_in advances.step.result) z
      next z advances honest whole file_after = record {
        more = begins_more opened events (accepted_in advances.step.result) at.more;
        stands = on z (Ok tt) advances honest whole file_after;
        has = step_kept options p r (length opened) events x z at.stands.represents at.has advances.step.supply advances.step.result advances.step.steps advances.keeps file_after;
      }

    -- a stop at any moment
    pub stopped : (stages : List (KeepingStage d o k)) (x last : KeepingStage d o k) (events : List Event) (there : Stage d o) (y : Three D O K) → AdvancesAll options stages x last → AreHonest last → At events x → StopLeavesBeside stages x there y → IsLeft d o k p old opened y
    stopped [] x last events there y goes are at left =
        let was = all_honest options [] x last goes are in
        here events x at was.file y was.disk was.output left.1 left.2 left.3
    stopped (z ∷ []) x last events there y goes are at (inl left) =
        let then = all_honest options [] z last goes.1 are in
        within events x at (step_honest options x z goes.0.0 goes.0.1 then).file z goes.0.0 goes.0.1 then.disk then.output then.file y left.1 left.2 left.3
    stopped (z ∷ []) x last events there y goes are at (inr (inl left)) =
        let then = all_honest options [] z last goes.1 are in
        behind events x at (step_honest options x z goes.0.0 goes.0.1 then).file z goes.0.0 goes.0.1 then.disk then.output then.file y left.1 left.2 left.3.images
    stopped (z ∷ []) x last events there y goes are at (inr (inr left)) =
        let then = all_honest options [] z last goes.1 are in
        behind events x at (step_honest options x z goes.0.0 goes.0.1 then).file z goes.0.0 goes.0.1 then.disk then.output then.file y left.1 left.2
        (λ image may. file_counts z.file (k.moment x.file) image then.file (later k x.place z.place (owed_by goes.0.1.step.result x.stage.session.pending.items) x.file z.file goes.0.0 goes.0.1.keeps then.file) (file_law z.file image then.file (left.3.images image may)))
    stopped (z ∷ w ∷ more) x last events there y goes are at (inl left) =
        let then = all_honest options (w ∷ more) z last goes.1 are in
        within events x at (step_honest options x z (Ok tt) goes.0 then).file z (Ok tt) goes.0 then.disk then.output then.file y left.1 left.2 left.3
    stopped (z ∷ w ∷ more) x last events there y goes are at (inr (inl left)) =
        let then = all_honest options (w ∷ more) z last goes.1 are in
        behind events x at (step_honest options x z (Ok tt) goes.0 then).file z (Ok tt) goes.0 then.disk then.output then.file y left.1 left.2 left.3.images
    stopped (z ∷ w ∷ more) x last events there y goes are at (inr (inr left)) =
        let then = all_honest options (w ∷ more) z last goes.1 are in
        stopped (w ∷ more) z last (events ++ accepted_in goes.0.step.result) there y goes.1 are (next events x at (step_honest options x z (Ok tt) goes.0 then).file z goes.0 then.disk then.output then.file) left
