-- Drives, one behind another.
use Rattle.std.proofs.Common.{◌≡◌, inl, inr, ℕ, zero, suc, ◌≤◌, ◌<◌, ◌+◌, ◌-◌, List, [], ◌∷◌, ◌++◌, length, take, drop, get_or, Option, Some, None, Result, Ok, refl, sym, ◌∙◌, ap, subst, arith, append-nil}
use Rattle.std.specs.Prelude.{IfSome, slice_index}
use Rattle.std.proofs.lemmas.List.{take_all}
use Rattle.ckrt_disk.specs.Disk.{IsImage}
use Rattle.ckrt_disk.specs.Frame.{MayBeLeft}
use Rattle.ckrt_disk.specs.declared.disk.Disk.{Ghosts}
use Rattle.ckrt_disk.proofs.Images.{get_part, written_image, written_size, written_there}
use Rattle.ckrt_events.specs.declared.event.Event.{Event}
use Rattle.ckrt_stored.specs.Programs.{Program, RecoversTo, output_after}
use Rattle.ckrt_stored.specs.Recorded.{HasRecorded}
use Rattle.ckrt_stored.specs.Progress.{recovered_of}
use Rattle.ckrt_stored.specs.Recovery.{Recovered, Recovers}
use Rattle.ckrt_stored.specs.declared.fault.RecoverFault.{RecoverFault}
use Rattle.ckrt_stored.proofs.RecoverLemmas.{recovers_once}
use Rattle.ckrt_recovery.specs.Recovered.{IsRecovered}
use Rattle.ckrt_drive.specs.Fed.{IsFed}
use Rattle.ckrt_drive.specs.Keeping.{KeepsInput, KeepsOf}
use Rattle.ckrt_drive.proofs.KeepLemmas.{IsKept, fed_kept, keeps_content}
use Rattle.ckrt_drive.proofs.RecordLemmas.{recorded_kept}
use Rattle.ckrt_disk.specs.Lists.{IsBeginningOf}
use Rattle.ckrt_recovery.specs.Represents.{Represents, acknowledged_of}
use Rattle.ckrt_recovery.specs.View.{View, view_of}
use Rattle.ckrt_recovery.specs.declared.session.Session.{Session}
use Rattle.ckrt_disk.proofs.ListLemmas.{begins_itself, begins_through, taken_begins}
use Rattle.ckrt_recovery.proofs.AcceptLemmas.{output_begins}
use Rattle.ckrt_drive.specs.Output.{HoldsOutput, acknowledged_output}
use Rattle.ckrt_drive.specs.Plan.{schedule_of}
use Rattle.ckrt_drive.specs.Stages.{AreSupplied, GoesThrough, Stage}
use Rattle.ckrt_drive.specs.Steps.{accepted_in, aim_of}
use Rattle.ckrt_drive.specs.declared.options.Options.{Options}
use Rattle.ckrt_drive.specs.Drives.{AllKeep, ComeBehind, IsDrive, IsTold, Keeps, OneDrive, StopLeaves}
use Rattle.ckrt_drive.specs.ByPlan.{IsByPlanFrom, course}
use Rattle.ckrt_drive.specs.Together.{HoldTogether, HoldsBetween, IsLeftSince, IsSpared, StandTogether, StandsFed, StandsRecorded, past}
use Rattle.ckrt_drive.proofs.ByPlanLemmas.{by_plan_itself, by_plan_through, step_by_plan, told_more}
use Rattle.ckrt_drive.proofs.FedSteps.{begins_once, begins_same, fed_after, since_fed, since_has, still_fed, still_has, stop_fed, stop_has}
use Rattle.ckrt_drive.proofs.StepTogether.{no_longer, now_together, spared_after, step_together}

-- AN IMAGE WITH ANOTHER BYTE

-- where a byte is pending a stop may leave another
pub another : (content : List ℕ) (pending : ℕ → Type 0) (i : ℕ) → i < length content → pending i → (image : List ℕ) × IsImage content pending image × (slice_index image i ≡ suc (slice_index content i))
another content pending i lt is =
    let bytes = suc (slice_index content i) ∷ [] in
    let image = take i content ++ bytes ++ drop (i + 1) content in
    let room : i + length bytes ≤ length content = omega (arith, lt) in
    let there : take 1 (drop i image) ≡ bytes = written_there content i bytes image refl room in
    let long = written_size content i bytes image refl room in
    let value = sym (get_part 1 i image 0 0 (omega arith) (omega (arith, long, lt))) ∙ ap (λ (l : List ℕ). get_or l 0 0) there in
    let place : i + 0 ≡ i = omega arith in (
      image,
      written_image content i bytes image refl room pending (λ j within. let same : i ≡ j = omega (arith, within.0, within.1) in subst pending same is),
      subst (λ n. get_or image n 0 ≡ suc (slice_index content i)) place value,
    )

pub itself : {D : Type 0} (d : Ghosts D) (disk : D) → MayBeLeft d disk (d.content disk)
itself d disk = record { size = refl; same = λ i out. refl }

-- so what any such image has isn't pending
not_pending : {O : Type 0} (o : Ghosts O) (output : O) (i x : ℕ) → (o.pending output i → i < length (o.content output)) → ((image : List ℕ) → MayBeLeft o output image → slice_index image i ≡ x) → ¬ o.pending output i
not_pending o output i x inside all is =
    let other = another (o.content output) (o.pending output) i (inside is) is in
    let here = all (o.content output) (itself o output) in
    let there = all other.0 other.1 in
    absurd (omega (arith, here, there, other.2))

-- LESS IS KNOWN

weaker : (p : Program) (old : List ℕ) (before few some most : List Event) (image : List ℕ) (Y Z : List ℕ → Type 0) → IsBeginningOf before few → IsBeginningOf some most → ((output : List ℕ) → Z output → Y output)
    → HoldTogether (past p old few some) image Y → HoldTogether (past p old before most) image Z
weaker p old before few some most image Y Z begins within are h = record {
  all = h.all;
  begins = begins_through before few h.all begins h.begins;
  within = begins_through h.all some most h.within within;
  to = h.to;
  recovers = h.recovers;
  reached = h.reached;
  has = λ output might. h.has output (are output might);
  spares = λ output might. h.spares output (are output might);
}

same_confirmed : (image : List ℕ) (r s : Recovered) → Recovers image (Ok r) → Recovers image (Ok s) → r.confirmed ≡ s.confirmed
same_confirmed image r s x y =
    let both : ◌≡◌ {A = Result Recovered RecoverFault} (Ok r) (Ok s) = recovers_once image (Ok r) (Ok s) x y in
    let same : r ≡ s = cc in
    ap (λ (q : Recovered). q.confirmed) same

-- what is acknowledged of a list stays a beginning where no fewer are
take_past : (n : ℕ) (xs ys : List Event) → length xs ≤ n → take n (xs ++ ys) ≡ xs ++ take (n - length xs) ys
take_past n [] ys le = let all : n ≡ n - 0 = omega arith in ap (λ m. take m ys) all
take_past zero (x ∷ xs) ys le = absurd (omega (arith, le))
take_past (suc n) (x ∷ xs) ys le = let less : suc n - suc (length xs) ≡ n - length xs = omega arith in ap (λ (l : List Event). x ∷ l) (take_past n xs ys (omega (arith, le))) ∙ ap (λ m. x ∷ (xs ++ take m ys)) (sym less)

still_begins : (events all : List Event) (few many : ℕ) (before : List Event) → length events ≤ few → IsBeginningOf before events → IsBeginningOf events all → few ≤ many → IsBeginningOf before (take many all)
still_begins events all few many before known begins more le =
    let there : IsBeginningOf events (take many all) = (take (many - length events) more.0, ap (take many) more.1 ∙ take_past many events more.0 (omega (arith, known, le))) in
    begins_through before events (take many all) begins there

module _ {D O : Type 0} (g : Ghosts D) (o : Ghosts O) where
  -- both were honest before
  pub disk_honest : (options : Options) (stages : List (Stage g o)) (x y : Stage g o) → GoesThrough options stages x y → g.is_honest y.session.disk → g.is_honest x.session.disk
  disk_honest options [] x y h is = subst (λ (q : Stage g o). g.is_honest q.session.disk) h is
  disk_honest options (z ∷ more) x y h is = h.0.steps.accepts.honest (disk_honest options more z y h.1 is)

  output_honest : (options : Options) (stages : List (Stage g o)) (x y : Stage g o) → GoesThrough options stages x y → o.is_honest y.output → o.is_honest x.output
  output_honest options [] x y h is = subst (λ (q : Stage g o). o.is_honest q.output) h is
  output_honest options (z ∷ more) x y h is = h.0.steps.writes.honest (output_honest options more z y h.1 is)

module _ {D O : Type 0} (g : Ghosts D) (o : Ghosts O) (p : Program) (old : List ℕ) where
  -- WHAT IS RECOVERED

  pub record Opens (before most : List Event) (start_image : List ℕ) (s : Session D g) (a : O) : Type 0 where
    pub all : List Event
    pub begins : IsBeginningOf before all
    pub within : IsBeginningOf all most
    pub from : ℕ
    pub recovers : RecoversTo p all from start_image
    -- all of them are acknowledged
    pub known : length all ≤ s.acknowledged
    pub represents : Represents p all s
    pub holds : HoldsOutput o 0 s.progress.confirmed (acknowledged_output p all s) a
    pub spares : IsSpared o s.released old a

  pub opens : (before most : List Event) (start : D) (s : Session D g) (a : O) → g.is_honest s.disk → IsRecovered g start s → StandTogether g o (past p old before most) start a → Opens before most (g.content start) s a
  opens before most start s a honest recovered stand =
      let h = stand.images (g.content start) (itself g start) in
      let reps = recovered.represents honest p h.all h.to h.recovers in
      let confirmed = same_confirmed (g.content start) (recovered_of s.progress) h.recovers.recovered (recovered.content honest) h.recovers.recovers in
      let low : s.progress.confirmed ≤ h.to = omega (arith, confirmed, h.recovers.held_from) in
      let count = ap (λ (v : View). v.acknowledged) recovered.view ∙ reps.count in
      let same : acknowledged_of h.all s ≡ h.all = take_all s.acknowledged h.all (omega (arith, count)) in
      let out = output_after p h.all in
      let are : acknowledged_output p h.all s ≡ out = ap (output_after p) same in
      let has : (i : ℕ) → i < s.progress.confirmed → (image : List ℕ) → MayBeLeft o a image → slice_index image i ≡ slice_index out i = λ i lt image may. h.has image may i (omega arith) (omega (arith, lt, low)) in
      let released : s.released ≡ length out = reps.released ∙ ap length are in
      let rest : (i : ℕ) → s.released ≤ i → (image : List ℕ) → MayBeLeft o a image → slice_index image i ≡ slice_index old i = λ i le image may. h.spares image may i (omega (arith, le, released)) in
      record {
        all = h.all;
        begins = h.begins;
        within = h.within;
        from = h.to;
        recovers = h.recovers;
        known = omega (arith, count);
        represents = reps;
        holds = record {
          has = λ i le lt. has i lt (o.content a) (itself o a) ∙ ap (λ (l : List ℕ). slice_index l i) (sym are);
          durable = λ i le lt. not_pending o a i (slice_index out i) (stand.inside i) (has i lt);
        };
        spares = record {
          same = λ i le. rest i le (o.content a) (itself o a);
          durable = λ i le. not_pending o a i (slice_index old i) (stand.inside i) (rest i le);
        };
      }

  -- a session keeps what its disk had
  session_has : (Has : List Event → List ℕ → Type 0) (start : D) (s : Session D g) (events : List Event) → g.is_honest s.disk → IsRecovered g start s → Represents p events s → Has events (g.content start) → KeepsOf Has events s
  session_has Has start s events honest recovered reps is =
      let settled = recovered.disk.settled refl honest in
      let count = ap (λ (v : View). v.acknowledged) recovered.view ∙ reps.count in
      let same : acknowledged_of events s ≡ events = take_all s.acknowledged events (omega (arith, count)) in
      keeps_content {Has = Has} events s (ap (λ (v : View). v.failed) recovered.view) settled.durable
      (subst (λ (l : List Event). Has l (g.content s.disk)) (sym same) (subst (λ (l : List ℕ). Has events l) (sym settled.content) is))

  opened_has : (Has : List Event → List ℕ → Type 0) → IsKept p Has → (before most : List Event) (start : D) (s : Session D g) (a : O) → g.is_honest s.disk → IsRecovered g start s → (x : Opens before most (g.content start) s a)
      → ((image : List ℕ) → MayBeLeft g start image → HoldsBetween Has (past p old before most) image) → KeepsOf Has x.all s
  opened_has Has kept before most start s a honest recovered x stand =
      let k : HoldsBetween Has (past p old before most) (g.content start) = stand (g.content start) (itself g start) in
      let same : x.all ≡ k.all = begins_once x.all k.all most x.within k.within (kept.as_many x.all k.all x.from (g.content start) x.recovers k.held.1) in
      session_has Has start s x.all honest recovered x.represents (subst (λ (l : List Event). Has l (g.content start)) (sym same) k.held.1)

  opened_fed : (file : Option (List ℕ)) (before most : List Event) (start : D) (s : Session D g) (a : O) → g.is_honest s.disk → IsRecovered g start s → (x : Opens before most (g.content start) s a) → StandsFed g file (past p old before most) start
      → IfSome file (λ bytes. KeepsInput x.all s)
  opened_fed (Some bytes) before most start s a honest recovered x stand = opened_has IsFed (fed_kept p) before most start s a honest recovered x stand
  opened_fed None before most start s a honest recovered x stand = tt

  -- STEP BY STEP

  pub record RunKeeps (options : Options) (file : Option (List ℕ)) (events : List Event) (stages : List (Stage g o)) (x y : Stage g o) : Type 0 where
    pub all : List Event
    pub more : IsBeginningOf events all
    pub by_plan : IsTold file x.taken events → IsByPlanFrom (course (schedule_of options) file) p events all
    pub taken : IsTold file x.taken events → IsTold file y.taken all
    -- no fewer are acknowledged at any stage
    pub still : (at : Stage g o) (disk : D) (output : O) → StopLeaves stages x at disk output → x.session.acknowledged ≤ at.session.acknowledged
    pub represents : Represents p all y.session
    pub holds : HoldsOutput o 0 y.session.progress.confirmed (acknowledged_output p all y.session) y.output
    pub spares : IsSpared o y.session.released old y.output
    -- what a stop leaves has recorded its events
    pub recorded : KeepsOf (HasRecorded p) events x.session → (at : Stage g o) (disk : D) (output : O) → StopLeaves stages x at disk output → StandsRecorded g (past p old (take at.session.acknowledged all) all) disk
    -- what a stop leaves keeps what the events took, where there is an input
    pub fed : IfSome file (λ bytes. KeepsInput events x.session) → IsTold file x.taken events → (at : Stage g o) (disk : D) (output : O) → StopLeaves stages x at disk output → StandsFed g file (past p old (take at.session.acknowledged all) all) disk
    pub moments : (at : Stage g o) (disk : D) (output : O) → StopLeaves stages x at disk output → StandTogether g o (past p old (take at.session.acknowledged all) all) disk output

  module _ (law : (disk : D) (image : List ℕ) → g.is_honest disk → g.left_since disk (g.moment disk) image → IsImage (g.content disk) (g.pending disk) image)
      (output_law : (disk : O) (image : List ℕ) → o.is_honest disk → o.left_since disk (o.moment disk) image → IsImage (o.content disk) (o.pending disk) image) where
    -- what is left at a stage, behind which a step takes some events
    at_stage : (events some all : List Event) (x z at : Stage g o) (disk : D) (output : O) → Represents p events x.session → IsBeginningOf events all → IsBeginningOf some all → at ≡ x → IsLeftSince g x.session.disk z.session.disk disk → IsLeftSince o x.output z.output output
        → ((image : List ℕ) → g.left_since z.session.disk (g.moment x.session.disk) image → HoldTogether (past p old (acknowledged_of events x.session) some) image (o.left_since z.output (o.moment x.output)))
        → StandTogether g o (past p old (take at.session.acknowledged all) all) disk output
    at_stage events some all x z at disk output reps more within is left output_left together = record {
      images = λ image may. weaker p old (take at.session.acknowledged all) (acknowledged_of events x.session) some all image (o.left_since z.output (o.moment x.output)) (MayBeLeft o output)
          (subst (λ (l : List Event). IsBeginningOf l (acknowledged_of events x.session)) (sym (ap (λ (q : Stage g o). take q.session.acknowledged all) is ∙ begins_same events all x.session.acknowledged reps.acknowledged more)) (begins_itself (acknowledged_of events x.session)))
          within output_left.images (together image (left.images image may));
      inside = output_left.inside;
    }

    at_same : (x at : Stage g o) → at ≡ x → at.session.acknowledged ≡ x.session.acknowledged
    at_same x at is = ap (λ (q : Stage g o). q.session.acknowledged) is

    same_acknowledged : (x at : Stage g o) → at ≡ x → x.session.acknowledged ≤ at.session.acknowledged
    same_acknowledged x at is = let same = ap (λ (q : Stage g o). q.session.acknowledged) is in omega (arith, same)

    run_keeps : (options : Options) (file : Option (List ℕ)) (events : List Event) (stages : List (Stage g o)) (x y : Stage g o) (h : GoesThrough options stages x y) → AreSupplied options file stages x y h → g.is_honest y.session.disk → o.is_honest y.output → Represents p events x.session
        → HoldsOutput o 0 x.session.progress.confirmed (acknowledged_output p events x.session) x.output → IsSpared o x.session.released old x.output → RunKeeps options file events stages x y
    run_keeps options file events [] x y h supplied honest whole reps held spared = record {
      all = events;
      more = begins_itself events;
      by_plan = λ told. by_plan_itself (course (schedule_of options) file) p events;
      taken = λ told. subst (λ (q : Stage g o). IsTold file q.taken events) (sym h) told;
      still = λ at disk output left. same_acknowledged x at left.0;
      represents = subst (λ (q : Stage g o). Represents p events q.session) (sym h) reps;
      holds = subst (λ (q : Stage g o). HoldsOutput o 0 q.session.progress.confirmed (acknowledged_output p events q.session) q.output) (sym h) held;
      spares = subst (λ (q : Stage g o). IsSpared o q.session.released old q.output) (sym h) spared;
      recorded = λ keeps at disk output left. stop_has p (HasRecorded p) (recorded_kept p) events x.session x.session reps old events at.session.acknowledged disk (begins_itself events) (at_same x at left.0) left.1
          (still_has law p (HasRecorded p) (recorded_kept p) events x.session reps (subst (λ (q : Stage g o). g.is_honest q.session.disk) h honest) keeps);
      fed = λ keeps told at disk output left. stop_fed p events x.session x.session reps file old events at.session.acknowledged disk (begins_itself events) (at_same x at left.0) left.1
          (still_fed law p events x.session reps (subst (λ (q : Stage g o). g.is_honest q.session.disk) h honest) file keeps);
      moments = λ at disk output left. at_stage events (events ++ []) events x x at disk output reps (begins_itself events) (subst (λ (l : List Event). IsBeginningOf l events) (sym (append-nil events)) (begins_itself events)) left.0 left.1 left.2
          (now_together o law output_law x.session x.output (subst (λ (q : Stage g o). g.is_honest q.session.disk) h honest) (subst (λ (q : Stage g o). o.is_honest q.output) h whole) p events reps held old spared);
    }
    run_keeps options file events (z ∷ more) x y h supplied honest whole reps held spared =
        let step = h.0.steps in
        let accepted = accepted_in h.0.result in
        let mid = disk_honest g o options more z y h.1 honest in
        let half = output_honest g o options more z y h.1 whole in
        let there = step.accepts.represents mid p events reps in
        let longer = no_longer (acknowledged_output p events x.session) (acknowledged_output p (events ++ accepted) z.session)
        (output_begins p (acknowledged_of events x.session) (acknowledged_of (events ++ accepted) z.session) (taken_begins x.session.acknowledged z.session.acknowledged events accepted reps.acknowledged step.accepts.acknowledged)) in
        let k = run_keeps options file (events ++ accepted) more z y h.1 supplied.1 honest whole there (step.writes.holds mid half p events 0 reps held)
        (spared_after o (aim_of options h.0.supply (view_of x.session)) x.session z.session x.output z.output law output_law h.0.result step mid half p events reps held old spared z.session.released (omega (arith, reps.released, there.released, longer))) in
        let begins = begins_through events (events ++ accepted) k.all (accepted, refl) k.more in
        let start = step.accepts.honest mid in
        record {
          all = k.all;
          more = begins;
          by_plan = λ told. by_plan_through (course (schedule_of options) file) p events (events ++ accepted) k.all (step_by_plan o options file h.0.supply x.taken x.session z.session x.output z.output p events reps supplied.0 told h.0.result step) (k.by_plan (told_more file x.taken z.taken events accepted h.0.taken told));
          taken = λ told. k.taken (told_more file x.taken z.taken events accepted h.0.taken told);
          still = λ at disk output left. elim left [
            | inl here ↦ same_acknowledged x at here.0
            | inr later ↦ (let rest = k.still at disk output later in omega (arith, rest, step.accepts.acknowledged))
          ];
          recorded = λ keeps at disk output left. elim left [
            | inl here ↦ stop_has p (HasRecorded p) (recorded_kept p) events x.session z.session reps old k.all at.session.acknowledged disk begins (at_same x at here.0) here.1
                (since_has p (HasRecorded p) (recorded_kept p) events x.session z.session reps law start (step.records.any_moment mid p events (reps, keeps)) keeps)
            | inr later ↦ k.recorded (step.records.after mid p events (reps, keeps)).1 at disk output later
          ];
          fed = λ keeps told at disk output left. elim left [
            | inl here ↦ stop_fed p events x.session z.session reps file old k.all at.session.acknowledged disk begins (at_same x at here.0) here.1
                (since_fed p events x.session z.session reps file accepted x.taken h.0.supply.recorded mid law start supplied.0.recorded step.feeds keeps told)
            | inr later ↦ k.fed (fed_after p events x.session z.session reps file accepted x.taken h.0.supply.recorded mid supplied.0.recorded step.feeds keeps told) (told_more file x.taken z.taken events accepted h.0.taken told) at disk output later
          ];
          represents = k.represents;
          holds = k.holds;
          spares = k.spares;
          moments = λ at disk output left. elim left [
            | inl here ↦ at_stage events (events ++ accepted) k.all x z at disk output reps begins k.more here.0 here.1 here.2
                (step_together o (aim_of options h.0.supply (view_of x.session)) x.session z.session x.output z.output law output_law h.0.result step mid half p events reps held old spared)
            | inr later ↦ k.moments at disk output later
          ];
        }

    -- ONE DRIVE

    pub drive_keeps : (before most : List Event) (v : OneDrive g o) → StandTogether g o (past p old before most) v.start v.first.output → IsDrive v → Keeps (past p old before most) v
    drive_keeps before most v stand is =
        let honest = disk_honest g o v.options v.stages v.first v.last is.goes is.honest in
        let opened = opens before most v.start v.first.session v.first.output honest is.recovered stand in
        let k = run_keeps v.options v.file opened.all v.stages v.first v.last is.goes is.supplied is.honest is.output_honest opened.represents opened.holds opened.spares in
        let s = v.last.session in
        record {
          opened = opened.all;
          begins = opened.begins;
          within = opened.within;
          from = opened.from;
          recovers = opened.recovers;
          all = k.all;
          represents = k.represents;
          by_plan = k.by_plan;
          taken = k.taken;
          still = λ at disk output left. still_begins opened.all k.all v.first.session.acknowledged at.session.acknowledged before opened.known opened.begins k.more (k.still at disk output left);
          any_moment = k.moments;
          recorded = λ stand. k.recorded (opened_has (HasRecorded p) (recorded_kept p) before most v.start v.first.session v.first.output honest is.recovered opened stand);
          fed = λ stand told. k.fed (opened_fed v.file before most v.start v.first.session v.first.output honest is.recovered opened stand) told;
          holds = k.holds;
          spares = k.spares;
          whole = λ saved.
              let count = saved.acknowledged ∙ k.represents.count in
              let same : acknowledged_of k.all s ≡ k.all = take_all s.acknowledged k.all (omega (arith, count)) in
              let out : acknowledged_output p k.all s ≡ output_after p k.all = ap (output_after p) same in
              let long : s.progress.confirmed ≡ length (output_after p k.all) = saved.confirmed ∙ (k.represents.released ∙ ap length out) in
              let released : s.released ≡ length (output_after p k.all) = k.represents.released ∙ ap length out in (
                subst (λ n. HoldsOutput o 0 n (output_after p k.all) v.last.output) long (subst (λ (l : List ℕ). HoldsOutput o 0 s.progress.confirmed l v.last.output) out k.holds),
                subst (λ n. IsSpared o n old v.last.output) released k.spares,
              );
        }

    -- MANY

    pub all_keep : (before most : List Event) (v : OneDrive g o) (more : List (OneDrive g o)) → StandTogether g o (past p old before most) v.start v.first.output → IsDrive v → ComeBehind v more → AllKeep (past p old before most) (v ∷ more)
    all_keep before most v [] stand is behind = (drive_keeps before most v stand is, tt)
    all_keep before most v (w ∷ more) stand is behind =
        let k = drive_keeps before most v stand is in
        (k, all_keep (take v.at.session.acknowledged k.all) k.all w more (k.any_moment v.at w.start w.first.output behind.0) behind.1 behind.2)
