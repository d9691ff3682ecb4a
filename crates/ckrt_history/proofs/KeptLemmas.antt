-- What a drive's history has beside what its disk recovers to.
use Rattle.std.proofs.Common.{◌≡◌, ◌⊎◌, inl, inr, ⊎_elim, ℕ, ◌-◌, ◌≤◌, Bool, true, false, List, [], ◌∷◌, ◌++◌, length, take, drop, Result, Ok, Err, refl, sym, ◌∙◌, ap, subst, arith, length-append, length-drop}
use Rattle.std.proofs.lemmas.List.{drop-append-le, take-append-drop, take-append-le, take_all, length-take-le}
use Rattle.ckrt_disk.specs.Disk.{IsImage}
use Rattle.ckrt_disk.specs.Frame.{MayBeLeft}
use Rattle.ckrt_disk.specs.Lists.{IsBeginningOf}
use Rattle.ckrt_disk.specs.declared.disk.Disk.{Ghosts}
use Rattle.ckrt_disk.proofs.ListLemmas.{begins_itself, begins_through, take_begins, taken_begins}
use Rattle.ckrt_events.specs.declared.event.Event.{Event}
use Rattle.ckrt_look_recording.specs.Recording.{Recorded}
use Rattle.ckrt_look_recording.proofs.RecordedLemmas as recordings
use Rattle.ckrt_recovery.proofs.AcceptLemmas.{since_start}
use Rattle.ckrt_recovery.proofs.CommitLemmas.{decoded, none_pending}
use Rattle.ckrt_recovery.specs.Represents.{RecoversToEither, Represents, acknowledged_of}
use Rattle.ckrt_recovery.specs.View.{View, view_of}
use Rattle.ckrt_recovery.specs.declared.session.Session.{Session}
use Rattle.ckrt_stored.specs.Programs.{Program}
use Rattle.ckrt_stored.specs.Write.{IsDurable}
use Rattle.ckrt_drive.proofs.PlannedLemmas.{all_acknowledged}
use Rattle.ckrt_drive.specs.Steps.{Steps, accepted_in, aim_of}
use Rattle.ckrt_drive.specs.declared.fault.DriveFault.{DriveFault}
use Rattle.ckrt_drive.specs.declared.fault.DriveFault.TheVariants as drive
use Rattle.ckrt_drive.specs.declared.options.Options.{Options}
use Rattle.ckrt_drive.specs.declared.step_done.StepDone.{StepDone}
use Rattle.ckrt_drive.specs.declared.step_done.StepDone.TheVariants.{Submitted, Committed, Checkpointed, Released, Stopped}
use Rattle.ckrt_drive.specs.declared.supply.Supply.{Supply}
use Rattle.ckrt_history.specs.Appending.{EndsAt, behind_batch, with_batch}
use Rattle.ckrt_history.specs.Completing.{GoesOn, end_of, missing_of, with_events}
use Rattle.ckrt_history.specs.History.{HasHistory}
use Rattle.ckrt_history.specs.Keeping.{Advances, GoesKeeping, Keeps, KeepingStage, owed_by}
use Rattle.ckrt_history.specs.Kept.{AtEachMoment, BeginsAtEnd, GoTogether, GoesOnTogether, HasAcknowledged, IsKept, KeepsOn, grown}
use Rattle.ckrt_history.specs.declared.joined.Joined.TheVariants.{Begun, Appended}
use Rattle.ckrt_history.specs.declared.keeping_fault.KeepingFault.{KeepingFault}
use Rattle.ckrt_history.specs.declared.opened.OpenHistory.{OpenHistory}
use Rattle.ckrt_history.proofs.BatchLemmas.{left_durable, with_more}
use Rattle.ckrt_history.proofs.BegunLemmas.{begun_has_recording}

-- WHAT IT BEGINS WITH

-- with all that it lacked it goes as far as the disk
reaches : (ahead own : Recorded) → GoesOn ahead own → end_of (with_events (missing_of ahead own) own) ≡ end_of ahead
reaches ahead own on =
    let more = length-append own.events (missing_of ahead own) in
    let lacked = length-drop (end_of own - ahead.first) ahead.events in
    omega (arith, more, lacked, on.reaches, on.within)

pub begins_at_end : BeginsAtEnd
begins_at_end disk before now Begun place ahead has ends recorded = (ahead, record { has = begun_has_recording disk now ahead has.1 recorded; place = ends }, refl)
begins_at_end disk before now (Appended n) place ahead has ends recorded =
    let up = has.1.2 in
    let same : up.ahead ≡ ahead = recordings.recorded_once disk up.ahead ahead up.has recorded in
    (with_events (missing_of up.ahead up.own) up.own, record { has = up.now; place = ends }, reaches up.ahead up.own up.goes_on ∙ ap end_of same)

-- WHAT IT HAS MORE

-- what is behind the first so many is grown behind them
grown_on : (r : Recorded) (from n : ℕ) (events : List Event) → from ≤ n → n ≤ length events → with_events (drop n events) (grown r from (take n events)) ≡ grown r from events
grown_on r from n events begun within =
    let size : length (take n events) ≡ n = length-take-le n events within in
    let joined : drop from (take n events) ++ drop n events ≡ drop from events = sym (drop-append-le from (take n events) (drop n events) (omega (arith, begun, size))) ∙ ap (λ (l : List Event). drop from l) (take-append-drop n events) in
    with_more (drop from (take n events)) (drop n events) r ∙ ap (λ (l : List Event). with_events l r) joined

-- what a session's own images recover to
represented_by : {D : Type 0} {d : Ghosts D} (b : Bool) (p : Program) (events : List Event) (s : Session D d) (image : List ℕ) → s.failed ≡ b → Represents p events s → IsImage (d.content s.disk) (d.pending s.disk) image → RecoversToEither p events s image
represented_by true p events s image is reps left = reps.failed is image left
represented_by false p events s image is reps left = inl (reps.images is image left).to

-- ONE STEP

module _ {D O : Type 0} {d : Ghosts D} (o : Ghosts O) (options : Options) (w : Supply) (s t : Session D d) (a b : O) where
  -- no event more is acknowledged and the history is owed none, unless it was a commit
  still : (result : Result StepDone DriveFault) → Steps o (aim_of options w (view_of s)) s t a b result → ((t.acknowledged ≡ s.acknowledged) × (owed_by result s.pending.items ≡ [])) ⊎ (result ≡ Ok Committed)
  still (Ok (Submitted e answer)) steps = inl (ap (λ (v : View). v.acknowledged) steps.done.1, refl)
  still (Ok Committed) steps = inr refl
  still (Ok Checkpointed) steps = inl (ap (λ (v : View). v.acknowledged) steps.done.1 ∙ sym (all_acknowledged options w (view_of s) steps.done.0), refl)
  still (Ok Released) steps = inl (ap (λ (v : View). v.acknowledged) steps.done.1, refl)
  still (Ok (Stopped ending)) steps = inl (ap (λ (v : View). v.acknowledged) steps.done.1, refl)
  still (Err drive.Device) steps = inl (ap (λ (v : View). v.acknowledged) steps.why, refl)
  still (Err drive.Input) steps = inl (ap (λ (u : Session D d). u.acknowledged) steps.why.0, refl)
  still (Err drive.NoRecord) steps = inl (ap (λ (u : Session D d). u.acknowledged) steps.why.2, refl)
  still (Err drive.Output) steps = inl (ap (λ (v : View). v.acknowledged) steps.why.2, refl)
  still (Err drive.OutputFull) steps = inl (ap (λ (u : Session D d). u.acknowledged) steps.why.2, refl)
  still (Err drive.GenerationsUsed) steps = inl (ap (λ (u : Session D d). u.acknowledged) steps.why.1, refl)
  still (Err (drive.Refused why)) steps = inl (ap (λ (u : Session D d). u.acknowledged) steps.why.1, refl)

  -- a commit acknowledges all events
  commits : (p : Program) (events : List Event) → Represents p events s → Steps o (aim_of options w (view_of s)) s t a b (Ok Committed) → t.acknowledged ≡ length events
  commits p events reps steps = ap (λ (v : View). v.acknowledged) steps.done.1 ∙ reps.count

-- no event more is acknowledged
same_acknowledged : {D : Type 0} {d : Ghosts D} (events more : List Event) (s t : Session D d) → s.acknowledged ≤ length events → t.acknowledged ≡ s.acknowledged → acknowledged_of (events ++ more) t ≡ acknowledged_of events s
same_acknowledged events more s t within same = ap (λ n. take n (events ++ more)) same ∙ take-append-le s.acknowledged events more within

-- all are, but for those that come then
all_of : {D : Type 0} {d : Ghosts D} (events more : List Event) (t : Session D d) → t.acknowledged ≡ length events → acknowledged_of (events ++ more) t ≡ events
all_of events more t all = take-append-le t.acknowledged events more (omega (arith, all)) ∙ take_all t.acknowledged events (omega (arith, all))

module _ {D O K : Type 0} {d : Ghosts D} {o : Ghosts O} {k : Ghosts K} (options : Options) (p : Program) (r : Recorded) (from : ℕ) (events : List Event) (x y : KeepingStage d o k)
    (reps : Represents p events x.stage.session) (has : HasAcknowledged r from events x) where
  abbrev few : List Event
  few = acknowledged_of events x.stage.session

  -- nothing was owed
  none_owed : (kept : Result (Unit {0}) KeepingFault) (owed : List ℕ) → owed ≡ [] → Keeps k x.place owed x.file y.file y.place kept → (y.file ≡ x.file) × (y.place ≡ x.place)
  none_owed kept owed none keeps = let nothing = subst (λ (l : List ℕ). Keeps k x.place l x.file y.file y.place kept) none keeps in (nothing.0, nothing.1)

  unchanged : (y.file ≡ x.file) × (y.place ≡ x.place) → EndsAt y.place (k.content y.file) (grown r from few) × IsDurable k y.file
  unchanged same = (
    subst (λ (q : OpenHistory). EndsAt q (k.content y.file) (grown r from few)) (sym same.1) (subst (λ f. EndsAt x.place (k.content f) (grown r from few)) (sym same.0) has.ends),
    subst (λ f. IsDurable k f) (sym same.0) has.durable,
  )

  -- all that was pending, and so behind it all events
  with_pending : (batch : List ℕ) → batch ≡ x.stage.session.pending.items → with_batch batch (grown r from few) ≡ grown r from events
  with_pending batch is =
      ap (λ (l : List Event). with_events l (grown r from few)) (decoded p events x.stage.session reps batch is) ∙ grown_on r from x.stage.session.acknowledged events has.begun reps.acknowledged

  -- nothing was pending, and all events were acknowledged
  all_few : x.stage.session.pending.items ≡ [] → few ≡ events
  all_few none = take_all x.stage.session.acknowledged events (let all = none_pending p events x.stage.session reps none in omega (arith, all))

  -- a commit was kept
  after_commit : (owed : List ℕ) → owed ≡ x.stage.session.pending.items → Keeps k x.place owed x.file y.file y.place (Ok tt) → k.is_honest y.file → EndsAt y.place (k.content y.file) (grown r from events) × IsDurable k y.file
  after_commit [] is keeps honest =
      let same = unchanged (keeps.0, keeps.1) in
      (subst (λ (l : List Event). EndsAt y.place (k.content y.file) (grown r from l)) (all_few (sym is)) same.0, same.1)
  after_commit (byte ∷ more) is keeps honest =
      let ends = keeps.0.appended honest (grown r from few) has.ends in (
        subst (λ (q : OpenHistory). EndsAt q (k.content y.file) (grown r from events)) (sym keeps.1) (subst (λ (q : Recorded). EndsAt (behind_batch (byte ∷ more) x.place) (k.content y.file) q) (with_pending (byte ∷ more) is) ends),
        keeps.0.durable honest,
      )

  -- a step was kept that was no commit
  quiet_kept : (more : List Event) → y.stage.session.acknowledged ≡ x.stage.session.acknowledged → (y.file ≡ x.file) × (y.place ≡ x.place) → HasAcknowledged r from (events ++ more) y
  quiet_kept more quiet same =
      let after = unchanged same in
      record {
        begun = omega (arith, has.begun, quiet);
        ends = subst (λ (l : List Event). EndsAt y.place (k.content y.file) (grown r from l)) (sym (same_acknowledged events more x.stage.session y.stage.session reps.acknowledged quiet)) after.0;
        durable = after.1;
      }

  -- or a commit was
  commit_kept : y.stage.session.acknowledged ≡ length events → Keeps k x.place x.stage.session.pending.items x.file y.file y.place (Ok tt) → k.is_honest y.file → HasAcknowledged r from (events ++ []) y
  commit_kept all keeps honest =
      let after = after_commit x.stage.session.pending.items refl keeps honest in
      record {
        begun = omega (arith, has.begun, reps.acknowledged, all);
        ends = subst (λ (l : List Event). EndsAt y.place (k.content y.file) (grown r from l)) (sym (all_of events [] y.stage.session all)) after.0;
        durable = after.1;
      }

  abbrev Makes : Supply → Result StepDone DriveFault → Type 0
  Makes w result = Steps o (aim_of options w (view_of x.stage.session)) x.stage.session y.stage.session x.stage.output y.stage.output result

  abbrev IsKeptBy : Result StepDone DriveFault → Result (Unit {0}) KeepingFault → Type 0
  IsKeptBy result kept = Keeps k x.place (owed_by result x.stage.session.pending.items) x.file y.file y.place kept

  pub step_kept : (w : Supply) (result : Result StepDone DriveFault) → Makes w result → IsKeptBy result (Ok tt) → k.is_honest y.file → HasAcknowledged r from (events ++ accepted_in result) y
  step_kept w result steps keeps honest = elim (still o options w x.stage.session y.stage.session x.stage.output y.stage.output result steps) [
    | inl quiet ↦ quiet_kept (accepted_in result) quiet.0 (none_owed (Ok tt) (owed_by result x.stage.session.pending.items) quiet.1 keeps)
    | inr is ↦ subst (λ z. HasAcknowledged r from (events ++ accepted_in z) y) (sym is)
        (commit_kept (commits o options w x.stage.session y.stage.session x.stage.output y.stage.output p events reps (subst (Makes w) is steps)) (subst (λ z. IsKeptBy z (Ok tt)) is keeps) honest)
  ]

  -- AT EACH MOMENT

  -- whatever a stop may leave of the file before the step
  pub left_before : (file : List ℕ) → MayBeLeft k x.file file → HasHistory file (grown r from few)
  left_before file left = subst (λ (l : List ℕ). HasHistory l (grown r from few)) (sym (left_durable k x.file file has.durable left)) has.ends.has

  module _ (file_law : (disk : K) (image : List ℕ) → k.is_honest disk → k.left_since disk (k.moment disk) image → IsImage (k.content disk) (k.pending disk) image) (honest : k.is_honest x.file) where
    left_still : (file : List ℕ) → y.file ≡ x.file → k.left_since y.file (k.moment x.file) file → HasHistory file (grown r from few)
    left_still file same left = left_before file (file_law x.file file honest (subst (λ f. k.left_since f (k.moment x.file) file) same left))

    -- and while a batch is appended
    left_appending : (kept : Result (Unit {0}) KeepingFault) (owed : List ℕ) → owed ≡ x.stage.session.pending.items → Keeps k x.place owed x.file y.file y.place kept → k.is_honest y.file → (file : List ℕ) → k.left_since y.file (k.moment x.file) file
        → HasHistory file (grown r from few) ⊎ HasHistory file (grown r from events)
    left_appending kept [] is keeps honest_then file left = inl (left_still file keeps.0 left)
    left_appending kept (byte ∷ more) is keeps honest_then file left = ⊎_elim
        (λ (past : _). inl (left_before file (file_law x.file file honest past)))
        (λ (grew : _). ⊎_elim
        (λ (as_before : _). inl as_before.has)
        (λ (ends : _). inr (subst (λ (q : Recorded). HasHistory file q) (with_pending (byte ∷ more) is) ends.has))
        (grew.2 (grown r from few) (subst (λ (l : List ℕ). EndsAt x.place l (grown r from few)) (sym (left_durable k x.file grew.0 has.durable grew.1)) has.ends)))
        ((keeps.0.any_moment honest_then).each (k.moment x.file) file (omega arith) left)

    -- so whatever a stop leaves of it behind the step has all that was acknowledged before, and no more than is now
    pub left_after : (w : Supply) (result : Result StepDone DriveFault) (kept : Result (Unit {0}) KeepingFault) → Makes w result → IsKeptBy result kept → k.is_honest y.file → (file : List ℕ) → k.left_since y.file (k.moment x.file) file
        → (front : List Event) × IsBeginningOf few front × IsBeginningOf front (acknowledged_of (events ++ accepted_in result) y.stage.session) × HasHistory file (grown r from front)
    left_after w result kept steps keeps honest_then file left =
        let accepted = accepted_in result in
        let still_few = taken_begins x.stage.session.acknowledged y.stage.session.acknowledged events accepted reps.acknowledged steps.accepts.acknowledged in
        elim (still o options w x.stage.session y.stage.session x.stage.output y.stage.output result steps) [
          | inl quiet ↦ (few, begins_itself few, still_few, left_still file (none_owed kept (owed_by result x.stage.session.pending.items) quiet.1 keeps).0 left)
          | inr is ↦ ⊎_elim
              (λ (as_before : _). (few, begins_itself few, still_few, as_before))
              (λ (more : _).
              let all = commits o options w x.stage.session y.stage.session x.stage.output y.stage.output p events reps (subst (Makes w) is steps) in
              (events, take_begins x.stage.session.acknowledged events, subst (λ (l : List Event). IsBeginningOf events l) (sym (all_of events accepted y.stage.session all)) (begins_itself events), more))
              (left_appending kept x.stage.session.pending.items refl (subst (λ z. IsKeptBy z kept) is keeps) honest_then file left)
        ]

    module _ (law : (disk : D) (image : List ℕ) → d.is_honest disk → d.left_since disk (d.moment disk) image → IsImage (d.content disk) (d.pending disk) image)
        (w : Supply) (kept : Result (Unit {0}) KeepingFault) (disk_honest : d.is_honest y.stage.session.disk) (file_honest : k.is_honest y.file) where
      -- these bytes have a beginning of whatever the image recovers to
      beside : (front all : List Event) (image file : List ℕ) → IsBeginningOf front (acknowledged_of all y.stage.session) → IsBeginningOf front all → Represents p all y.stage.session → MayBeLeft d y.stage.session.disk image → HasHistory file (grown r from front)
          → GoTogether p r from y.stage.session.progress.confirmed image file
      beside front all image file begins_few begins_all reps_then left is = ⊎_elim
          (λ (to : _). record { all = acknowledged_of all y.stage.session; recovers = to; kept = front; begins = begins_few; has = is })
          (λ (to : _). record { all = all; recovers = to; kept = front; begins = begins_all; has = is })
          (represented_by y.stage.session.failed p all y.stage.session image refl reps_then left)

      -- while the step is made
      stepping : (result : Result StepDone DriveFault) → Makes w result → (image file : List ℕ) → d.left_since y.stage.session.disk (d.moment x.stage.session.disk) image → MayBeLeft k x.file file
          → GoTogether p r from y.stage.session.progress.confirmed image file
      stepping result steps image file left might =
          let between = since_start law (accepted_in result) x.stage.session y.stage.session steps.accepts disk_honest p events reps image left in
          record { all = between.events; recovers = between.to; kept = few; begins = between.begins; has = left_before file might }

      -- while the batch is appended
      appending : (result : Result StepDone DriveFault) → Makes w result → IsKeptBy result kept → (image file : List ℕ) → MayBeLeft d y.stage.session.disk image → k.left_since y.file (k.moment x.file) file
          → GoTogether p r from y.stage.session.progress.confirmed image file
      appending result steps keeps image file might left =
          let all = events ++ accepted_in result in
          let has = left_after w result kept steps keeps file_honest file left in
          beside has.0 all image file has.2 (begins_through has.0 (acknowledged_of all y.stage.session) all has.2 (take_begins y.stage.session.acknowledged all)) (steps.accepts.represents disk_honest p events reps) might has.3

      pub at_each_moment : (result : Result StepDone DriveFault) → Makes w result → IsKeptBy result kept → AtEachMoment p r from x y
      at_each_moment result steps keeps = record { stepping = stepping result steps; appending = appending result steps keeps }

-- STEP AFTER STEP

-- an honest file was honest before
kept_honest : {K : Type 0} (k : Ghosts K) (place next : OpenHistory) (owed : List ℕ) (old new : K) (kept : Result (Unit {0}) KeepingFault) → Keeps k place owed old new next kept → k.is_honest new → k.is_honest old
kept_honest k place next [] old new kept keeps honest = subst k.is_honest keeps.0 honest
kept_honest k place next (byte ∷ more) old new kept keeps honest = keeps.0.same.honest honest

module _ {D O K : Type 0} {d : Ghosts D} {o : Ghosts O} {k : Ghosts K} (options : Options) where
  pub advance_honest : (x y : KeepingStage d o k) (kept : Result (Unit {0}) KeepingFault) → Advances options x y kept → k.is_honest y.file → k.is_honest x.file
  advance_honest x y kept advances honest = kept_honest k x.place y.place (owed_by advances.step.result x.stage.session.pending.items) x.file y.file kept advances.keeps honest

  all_honest : (stages : List (KeepingStage d o k)) (x y : KeepingStage d o k) → GoesKeeping options stages x y → d.is_honest y.stage.session.disk → k.is_honest y.file → d.is_honest x.stage.session.disk × k.is_honest x.file
  all_honest [] x y goes disk file = (subst (λ (q : KeepingStage d o k). d.is_honest q.stage.session.disk) goes disk, subst (λ (q : KeepingStage d o k). k.is_honest q.file) goes file)
  all_honest (z ∷ more) x y goes disk file =
      let then = all_honest more z y goes.1 disk file in
      (goes.0.step.steps.accepts.honest then.0, advance_honest x z (Ok tt) goes.0 then.1)

  kept_on : (p : Program) (r : Recorded) (from : ℕ) (stages : List (KeepingStage d o k)) (events : List Event) (x y : KeepingStage d o k) → GoesKeeping options stages x y → d.is_honest y.stage.session.disk → k.is_honest y.file
      → Represents p events x.stage.session → HasAcknowledged r from events x → IsKept p r from events y
  kept_on p r from [] events x y goes disk file reps has = record {
    all = events;
    more = begins_itself events;
    represents = subst (λ (q : KeepingStage d o k). Represents p events q.stage.session) (sym goes) reps;
    has = subst (λ (q : KeepingStage d o k). HasAcknowledged r from events q) (sym goes) has;
  }
  kept_on p r from (z ∷ more) events x y goes disk file reps has =
      let step = goes.0.step in
      let then = all_honest more z y goes.1 disk file in
      let rest = kept_on p r from more (events ++ accepted_in step.result) z y goes.1 disk file (step.steps.accepts.represents then.0 p events reps)
      (step_kept options p r from events x z reps has step.supply step.result step.steps goes.0.keeps then.1) in
      record {
        all = rest.all;
        more = begins_through events (events ++ accepted_in step.result) rest.all (accepted_in step.result, refl) rest.more;
        represents = rest.represents;
        has = rest.has;
      }

pub keeps_on : {D O K : Type 0} (d : Ghosts D) (o : Ghosts O) (k : Ghosts K) → KeepsOn d o k
keeps_on d o k options p r from events stages x y goes disk file reps has = kept_on options p r from stages events x y goes disk file reps has

pub goes_on_together : {D O K : Type 0} (d : Ghosts D) (o : Ghosts O) (k : Ghosts K) → ((disk : D) (image : List ℕ) → d.is_honest disk → d.left_since disk (d.moment disk) image → IsImage (d.content disk) (d.pending disk) image)
    → ((file : K) (image : List ℕ) → k.is_honest file → k.left_since file (k.moment file) image → IsImage (k.content file) (k.pending file) image) → GoesOnTogether d o k
goes_on_together d o k law file_law options p r from events x y kept advances disk file reps has =
    at_each_moment options p r from events x y reps has file_law (advance_honest options x y kept advances file) law advances.step.supply kept disk file advances.step.result advances.step.steps advances.keeps
