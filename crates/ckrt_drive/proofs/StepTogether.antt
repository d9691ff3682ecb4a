-- A step of a drive: what a stop within it leaves holds together.
use Rattle.std.proofs.Common.{◌≡◌, ◌⊎◌, inl, inr, ⊎_elim, ℕ, ◌≤◌, ◌<◌, ◌-◌, Bool, true, false, List, [], ◌++◌, length, Result, Ok, Err, refl, sym, ◌∙◌, ap, subst, arith, length-append}
use Rattle.std.specs.Prelude.{slice_index}
use Rattle.std.proofs.lemmas.List.{get_or_append_left}
use Rattle.ckrt_disk.specs.Disk.{IsImage, IsWithin}
use Rattle.ckrt_disk.specs.declared.disk.Disk.{Ghosts}
use Rattle.ckrt_events.specs.declared.event.Event.{Event}
use Rattle.ckrt_stored.specs.Programs.{Program, output_after}
use Rattle.ckrt_recovery.specs.Between.{RecoversBetween}
use Rattle.ckrt_disk.specs.Lists.{IsBeginningOf}
use Rattle.ckrt_recovery.specs.Represents.{RecoversToEither, Represents, acknowledged_of}
use Rattle.ckrt_recovery.specs.View.{View}
use Rattle.ckrt_recovery.specs.declared.session.Session.{Session}
use Rattle.ckrt_recovery.proofs.AcceptLemmas.{either_between, since_start}
use Rattle.ckrt_recovery.proofs.AcceptLemmas.{output_begins}
use Rattle.ckrt_drive.specs.Output.{HasOutput, HoldsOutput, acknowledged_output}
use Rattle.ckrt_drive.specs.Steps.{Aim, Steps, accepted_in}
use Rattle.ckrt_drive.specs.declared.fault.DriveFault.{DriveFault}
use Rattle.ckrt_drive.specs.declared.fault.DriveFault.TheVariants.{Device, Input, NoRecord, Output, OutputFull, GenerationsUsed, Refused}
use Rattle.ckrt_drive.specs.declared.step_done.StepDone.{StepDone}
use Rattle.ckrt_drive.specs.declared.step_done.StepDone.TheVariants.{Submitted, Committed, Checkpointed, Released, Stopped}
use Rattle.ckrt_drive.specs.Together.{HoldTogether, IsSameFrom, IsSpared, past}

-- a list and what goes on behind it
pub front_same : (few all : List ℕ) (i : ℕ) → IsBeginningOf few all → i < length few → slice_index all i ≡ slice_index few i
front_same few all i h lt = ap (λ (l : List ℕ). slice_index l i) h.1 ∙ get_or_append_left few h.0 0 i lt

pub no_longer : (few all : List ℕ) → IsBeginningOf few all → length few ≤ length all
no_longer few all h = let size = ap length h.1 ∙ length-append few h.0 in omega (arith, size)

-- what a session's own images recover to
represented_by : {D : Type 0} {g : Ghosts D} (b : Bool) (p : Program) (events : List Event) (s : Session D g) (image : List ℕ) → s.failed ≡ b → Represents p events s → IsImage (g.content s.disk) (g.pending s.disk) image → RecoversToEither p events s image
represented_by true p events s image is reps left = reps.failed is image left
represented_by false p events s image is reps left = inl (reps.images is image left).to

-- what recovers, and what has the output up to an offset that was confirmed and old bytes behind what was released, hold together
held_together : {D : Type 0} {g : Ghosts D} (p : Program) (old : List ℕ) (events more : List Event) (s : Session D g) (image : List ℕ) (Outputs : List ℕ → Type 0) → Represents p events s → RecoversBetween p (acknowledged_of events s) more s.progress.confirmed image
    → ((output : List ℕ) → Outputs output → HasOutput 0 s.progress.confirmed (acknowledged_output p events s) output) → ((output : List ℕ) → Outputs output → IsSameFrom s.released old output) → HoldTogether (past p old (acknowledged_of events s) more) image Outputs
held_together p old events more s image Outputs reps between has spares =
    let few = acknowledged_output p events s in
    let begins = output_begins p (acknowledged_of events s) between.events between.begins in
    let short : s.progress.confirmed ≤ length few = omega (arith, s.released_from, reps.released) in
    let long = no_longer few (output_after p between.events) begins in
    record {
      all = between.events;
      begins = between.begins;
      within = between.within;
      to = s.progress.confirmed;
      recovers = between.to;
      reached = omega (arith, short, long);
      has = λ output might. λ i le lt. has output might i le lt ∙ sym (front_same few (output_after p between.events) i begins (omega (arith, lt, short)));
      spares = λ output might. λ i le. spares output might i (omega (arith, le, long, reps.released));
    }

module _ {D O : Type 0} {g : Ghosts D} (o : Ghosts O) (planned : Aim) (s t : Session D g) (a b : O) where
  -- no more is confirmed, or the disk isn't called
  still : (r : Result StepDone DriveFault) → Steps o planned s t a b r → (t.progress.confirmed ≡ s.progress.confirmed) ⊎ (t.disk ≡ s.disk)
  still (Ok (Submitted e answer)) h = inl (ap (λ (v : View). v.recovered.confirmed) h.done.1)
  still (Ok Committed) h = inl (ap (λ (v : View). v.recovered.confirmed) h.done.1)
  still (Ok Checkpointed) h = inl (ap (λ (v : View). v.recovered.confirmed) h.done.1)
  still (Ok Released) h = inr (h.disk_kept h.done.0)
  still (Ok (Stopped ending)) h = inl (ap (λ (v : View). v.recovered.confirmed) h.done.1)
  still (Err Device) h = inl (ap (λ (v : View). v.recovered.confirmed) h.why)
  still (Err Input) h = inl (ap (λ (u : Session D g). u.progress.confirmed) h.why.0)
  still (Err NoRecord) h = inl (ap (λ (u : Session D g). u.progress.confirmed) h.why.2)
  still (Err Output) h = inl (ap (λ (v : View). v.recovered.confirmed) h.why.2)
  still (Err OutputFull) h = inl (ap (λ (u : Session D g). u.progress.confirmed) h.why.2)
  still (Err GenerationsUsed) h = inl (ap (λ (u : Session D g). u.progress.confirmed) h.why.1)
  still (Err (Refused why)) h = inl (ap (λ (u : Session D g). u.progress.confirmed) h.why.1)

  module _ (law : (disk : D) (image : List ℕ) → g.is_honest disk → g.left_since disk (g.moment disk) image → IsImage (g.content disk) (g.pending disk) image)
      (output_law : (disk : O) (image : List ℕ) → o.is_honest disk → o.left_since disk (o.moment disk) image → IsImage (o.content disk) (o.pending disk) image)
      (result : Result StepDone DriveFault) (h : Steps o planned s t a b result) (honest : g.is_honest t.disk) (whole : o.is_honest b)
      (p : Program) (events : List Event) (reps : Represents p events s) (held : HoldsOutput o 0 s.progress.confirmed (acknowledged_output p events s) a) (old : List ℕ) (spared : IsSpared o s.released old a) where
    -- what a stop leaves of the disk holds output from an offset on that is at most the one confirmed before the step
    of_disk : (image : List ℕ) → g.left_since t.disk (g.moment s.disk) image → RecoversBetween p (acknowledged_of events s) (events ++ accepted_in result) s.progress.confirmed image
    of_disk image left = elim (still result h) [
      | inl same ↦ subst (λ n. RecoversBetween p (acknowledged_of events s) (events ++ accepted_in result) n image) same (since_start law (accepted_in result) s t h.accepts honest p events reps image left)
      | inr same ↦ either_between p events (accepted_in result) s s.progress.confirmed image (omega arith)
          (represented_by s.failed p events s image refl reps (law s.disk image (h.accepts.honest honest) (subst (λ d. g.left_since d (g.moment s.disk) image) same left)))
    ]

    -- and what it leaves of the output has all below that
    of_output : (image : List ℕ) → o.left_since b (o.moment a) image → HasOutput 0 s.progress.confirmed (acknowledged_output p events s) image
    of_output image left = ⊎_elim
        (λ (past : _). λ i le lt. (output_law a image (h.writes.honest whole) past).same i (held.durable i le lt) ∙ held.has i le lt)
        (λ (meant : _). meant)
        ((h.writes.any_moment honest whole p events 0 reps held).each (o.moment a) image (omega arith) left)

    -- behind what is released nothing is written
    past_all : (i : ℕ) → s.released ≤ i → (o.pending a i ⊎ IsWithin s.progress.confirmed (s.released - s.progress.confirmed) i) → ⊥
    past_all i le might = ⊎_elim (λ (was : _). spared.durable i le was) (λ (within : _). absurd (omega (arith, le, within.1, s.released_from))) might

    of_rest : (image : List ℕ) → o.left_since b (o.moment a) image → IsSameFrom s.released old image
    of_rest image left = ⊎_elim
        (λ (past : _). λ i le. (output_law a image (h.writes.honest whole) past).same i (spared.durable i le) ∙ spared.same i le)
        (λ (meant : _). λ i le. meant.same i (past_all i le) ∙ spared.same i le)
        ((h.only.any_moment whole).each (o.moment a) image (omega arith) left)

    pub spared_after : (n : ℕ) → s.released ≤ n → IsSpared o n old b
    spared_after n more = record {
      same = λ i le. (h.only.content whole).same i (past_all i (omega (arith, le, more))) ∙ spared.same i (omega (arith, le, more));
      durable = λ i le is. past_all i (omega (arith, le, more)) (h.only.pending whole i is);
    }

    pub step_together : (image : List ℕ) → g.left_since t.disk (g.moment s.disk) image → HoldTogether (past p old (acknowledged_of events s) (events ++ accepted_in result)) image (o.left_since b (o.moment a))
    step_together image left = held_together p old events (events ++ accepted_in result) s image (o.left_since b (o.moment a)) reps (of_disk image left) of_output of_rest

-- between two steps
module _ {D O : Type 0} {g : Ghosts D} (o : Ghosts O) (law : (disk : D) (image : List ℕ) → g.is_honest disk → g.left_since disk (g.moment disk) image → IsImage (g.content disk) (g.pending disk) image)
    (output_law : (disk : O) (image : List ℕ) → o.is_honest disk → o.left_since disk (o.moment disk) image → IsImage (o.content disk) (o.pending disk) image)
    (s : Session D g) (a : O) (honest : g.is_honest s.disk) (whole : o.is_honest a)
    (p : Program) (events : List Event) (reps : Represents p events s) (held : HoldsOutput o 0 s.progress.confirmed (acknowledged_output p events s) a) (old : List ℕ) (spared : IsSpared o s.released old a) where
  pub now_together : (image : List ℕ) → g.left_since s.disk (g.moment s.disk) image → HoldTogether (past p old (acknowledged_of events s) (events ++ [])) image (o.left_since a (o.moment a))
  now_together image left = held_together p old events (events ++ []) s image (o.left_since a (o.moment a)) reps
      (either_between p events [] s s.progress.confirmed image (omega arith) (represented_by s.failed p events s image refl reps (law s.disk image honest left)))
      (λ output might. λ i le lt. (output_law a output whole might).same i (held.durable i le lt) ∙ held.has i le lt)
      (λ output might. λ i le. (output_law a output whole might).same i (spared.durable i le) ∙ spared.same i le)
