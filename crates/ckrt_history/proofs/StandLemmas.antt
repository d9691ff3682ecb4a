-- Where a drive stands: what its session represents, its disk has recorded and its output holds, stage after stage, and what a stop leaves there.
use Rattle.std.proofs.Common.{◌≡◌, ℕ, ◌≤◌, ◌<◌, List, [], ◌++◌, length, take, refl, sym, ◌∙◌, subst, arith, append-nil}
use Rattle.std.proofs.lemmas.List.{take-append-le}
use Rattle.ckrt_disk.specs.Disk.{IsImage}
use Rattle.ckrt_disk.specs.Frame.{MayBeLeft}
use Rattle.ckrt_disk.specs.Lists.{IsBeginningOf}
use Rattle.ckrt_disk.specs.declared.disk.Disk.{Ghosts}
use Rattle.ckrt_disk.proofs.ListLemmas.{begins_itself, begins_through, take_begins, taken_begins}
use Rattle.ckrt_events.specs.declared.event.Event.{Event}
use Rattle.ckrt_stored.specs.Programs.{Program}
use Rattle.ckrt_stored.specs.Recorded.{HasRecorded, RecoversRecorded}
use Rattle.ckrt_recovery.specs.Represents.{Represents, acknowledged_of}
use Rattle.ckrt_recovery.specs.View.{view_of}
use Rattle.ckrt_recovery.proofs.AcceptLemmas.{output_begins}
use Rattle.ckrt_drive.specs.Output.{HoldsOutput, acknowledged_output}
use Rattle.ckrt_drive.specs.Recording.{KeepsRecorded, OpensRecorded}
use Rattle.ckrt_drive.specs.Stages.{IsStep, Stage}
use Rattle.ckrt_drive.specs.Steps.{accepted_in, aim_of}
use Rattle.ckrt_drive.specs.declared.options.Options.{Options}
use Rattle.ckrt_drive.proofs.RecordLemmas.{recorded_kept}
use Rattle.ckrt_drive.specs.Drives.{IsDrive, Keeps, OneDrive, StopLeaves}
use Rattle.ckrt_drive.specs.Together.{HoldTogether, IsLeftSince, IsSpared, Past, StandTogether, StandsRecorded, past}
use Rattle.ckrt_drive.proofs.DriveLemmas.{drive_keeps}
use Rattle.ckrt_drive.proofs.FedSteps.{begins_once, since_has, still_has, stop_has}
use Rattle.ckrt_drive.proofs.StepTogether.{no_longer, now_together, spared_after, step_together}

-- with fewer outputs that may be left
pub fewer_outputs : (h : Past) (image : List ℕ) (Y Z : List ℕ → Type 0) → ((output : List ℕ) → Z output → Y output) → HoldTogether h image Y → HoldTogether h image Z
fewer_outputs h image Y Z are t = record {
  all = t.all;
  begins = t.begins;
  within = t.within;
  to = t.to;
  recovers = t.recovers;
  reached = t.reached;
  has = λ output might. t.has output (are output might);
  spares = λ output might. t.spares output (are output might);
}

-- what was left itself at this very moment
left_itself : {D : Type 0} (d : Ghosts D) → ((disk : D) (t : ℕ) (image : List ℕ) → d.is_honest disk → t ≤ d.moment disk → IsImage (d.content disk) (d.pending disk) image → d.left_since disk t image)
    → (disk : D) → d.is_honest disk → ((i : ℕ) → d.pending disk i → i < length (d.content disk)) → IsLeftSince d disk disk disk
left_itself d counts disk honest inside = record { images = λ image may. counts disk (d.moment disk) image honest (omega arith) may; inside = inside }

-- a disk and an output stand, with these events acknowledged and all these accepted
pub record AreLeft {D O : Type 0} (d : Ghosts D) (o : Ghosts O) (p : Program) (old : List ℕ) (few all : List Event) (disk : D) (output : O) : Type 0 where
  pub together : StandTogether d o (past p old few all) disk output
  pub recorded : StandsRecorded d (past p old few all) disk

module _ {D O : Type 0} {d : Ghosts D} {o : Ghosts O} (p : Program) (old : List ℕ) where
  -- after these events a drive stands so
  pub record Stands (events : List Event) (x : Stage d o) : Type 0 where
    pub represents : Represents p events x.session
    pub holds : HoldsOutput o 0 x.session.progress.confirmed (acknowledged_output p events x.session) x.output
    pub spares : IsSpared o x.session.released old x.output
    pub recorded : KeepsRecorded p events x.session

  module _ (law : (disk : D) (image : List ℕ) → d.is_honest disk → d.left_since disk (d.moment disk) image → IsImage (d.content disk) (d.pending disk) image)
      (output_law : (disk : O) (image : List ℕ) → o.is_honest disk → o.left_since disk (o.moment disk) image → IsImage (o.content disk) (o.pending disk) image) where
    -- WHAT IT BEGINS WITH

    -- as a drive that makes no step
    module _ (counts : (disk : D) (t : ℕ) (image : List ℕ) → d.is_honest disk → t ≤ d.moment disk → IsImage (d.content disk) (d.pending disk) image → d.left_since disk t image)
        (output_counts : (disk : O) (t : ℕ) (image : List ℕ) → o.is_honest disk → t ≤ o.moment disk → IsImage (o.content disk) (o.pending disk) image → o.left_since disk t image) (opens : OpensRecorded d) where
      pub stands_opened : (opened most : List Event) (limit : ℕ) (v : OneDrive d o) → IsDrive v → d.is_honest v.first.session.disk → o.is_honest v.first.output → StandTogether d o (past p old opened most) v.start v.first.output → RecoversRecorded p opened limit (d.content v.start) → Stands opened v.first
      stands_opened opened most limit v is honest whole stand recovers =
          let s = v.first.session in let a = v.first.output in
          let none : OneDrive d o = record { start = v.start; options = v.options; file = v.file; first = v.first; stages = []; last = v.first; at = v.first } in
          let is_none : IsDrive none = record { recovered = is.recovered; goes = refl; supplied = tt; honest = honest; output_honest = whole } in
          let k : Keeps (past p old opened most) none = drive_keeps d o p old law output_law opened most none stand is_none in
          let settled = is.recovered.disk.settled refl honest in
          let left : StopLeaves {d = d} {o = o} [] v.first v.first s.disk a = (refl, left_itself d counts s.disk honest (λ i is_pending. absurd (settled.durable i is_pending)), left_itself o output_counts a whole stand.inside) in
          let both = opens p opened limit v.start s is.recovered honest recovers in
          let more : IsBeginningOf opened k.all = begins_through opened (take s.acknowledged k.all) k.all (k.still v.first s.disk a left) (take_begins s.acknowledged k.all) in
          let same : k.all ≡ opened = sym (begins_once opened k.all k.all more (begins_itself k.all) (sym both.0.count ∙ k.represents.count)) in
          record {
            represents = both.0;
            holds = subst (λ (l : List Event). HoldsOutput o 0 s.progress.confirmed (acknowledged_output p l s) a) same k.holds;
            spares = k.spares;
            recorded = both.1;
          }

    -- WHAT A STOP LEAVES

    -- between two steps
    pub left_here : (events : List Event) (x : Stage d o) → d.is_honest x.session.disk → o.is_honest x.output → Stands events x → (disk : D) (output : O) → IsLeftSince d x.session.disk x.session.disk disk → IsLeftSince o x.output x.output output
        → AreLeft d o p old (acknowledged_of events x.session) events disk output
    left_here events x honest whole at disk output left output_left = record {
      together = record {
        images = λ image may. fewer_outputs (past p old (acknowledged_of events x.session) events) image (o.left_since x.output (o.moment x.output)) (MayBeLeft o output) output_left.images
            (subst (λ (l : List Event). HoldTogether (past p old (acknowledged_of events x.session) l) image (o.left_since x.output (o.moment x.output))) (append-nil events)
            (now_together o law output_law x.session x.output honest whole p events at.represents at.holds old at.spares image (left.images image may)));
        inside = output_left.inside;
      };
      recorded = stop_has p (HasRecorded p) (recorded_kept p) events x.session x.session at.represents old events x.session.acknowledged disk (begins_itself events) refl left
          (still_has law p (HasRecorded p) (recorded_kept p) events x.session at.represents honest at.recorded);
    }

    module _ (options : Options) (events : List Event) (x z : Stage d o) (step : IsStep options x z) (honest : d.is_honest z.session.disk) (whole : o.is_honest z.output) (at : Stands events x) where
      -- within a step
      pub left_within : (disk : D) (output : O) → IsLeftSince d x.session.disk z.session.disk disk → IsLeftSince o x.output z.output output → AreLeft d o p old (acknowledged_of events x.session) (events ++ accepted_in step.result) disk output
      left_within disk output left output_left =
          let all = events ++ accepted_in step.result in
          let same : take x.session.acknowledged all ≡ acknowledged_of events x.session = take-append-le x.session.acknowledged events (accepted_in step.result) at.represents.acknowledged in
          record {
            together = record {
              images = λ image may. fewer_outputs (past p old (acknowledged_of events x.session) all) image (o.left_since z.output (o.moment x.output)) (MayBeLeft o output) output_left.images
                  (step_together o (aim_of options step.supply (view_of x.session)) x.session z.session x.output z.output law output_law step.result step.steps honest whole p events at.represents at.holds old at.spares image (left.images image may));
              inside = output_left.inside;
            };
            recorded = subst (λ (l : List Event). StandsRecorded d (past p old l all) disk) same
                (stop_has p (HasRecorded p) (recorded_kept p) events x.session z.session at.represents old all x.session.acknowledged disk (accepted_in step.result, refl) refl left
                (since_has p (HasRecorded p) (recorded_kept p) events x.session z.session at.represents law (step.steps.accepts.honest honest) (step.steps.records.any_moment honest p events (at.represents, at.recorded)) at.recorded));
          }

      -- THE NEXT STAGE

      pub stands_on : Stands (events ++ accepted_in step.result) z
      stands_on =
          let accepted = accepted_in step.result in
          let both = step.steps.records.after honest p events (at.represents, at.recorded) in
          let longer = no_longer (acknowledged_output p events x.session) (acknowledged_output p (events ++ accepted) z.session)
          (output_begins p (acknowledged_of events x.session) (acknowledged_of (events ++ accepted) z.session) (taken_begins x.session.acknowledged z.session.acknowledged events accepted at.represents.acknowledged step.steps.accepts.acknowledged)) in
          record {
            represents = both.0;
            holds = step.steps.writes.holds honest whole p events 0 at.represents at.holds;
            spares = spared_after o (aim_of options step.supply (view_of x.session)) x.session z.session x.output z.output law output_law step.result step.steps honest whole p events at.represents at.holds old at.spares z.session.released
                (omega (arith, at.represents.released, both.0.released, longer));
            recorded = both.1;
          }
