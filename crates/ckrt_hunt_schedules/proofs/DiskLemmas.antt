-- What a disk has of a run that a session kept over it.
use Rattle.std.proofs.Common.{◌≡◌, ◌≤◌, ◌⊎◌, ◌∙◌, ℕ, Bool, true, false, inl, inr, List, [], length, take, Result, Ok, Err, ap, subst, sym, refl, arith}
use Rattle.std.proofs.lemmas.Bool.Decides.{nat_tests}
use Rattle.std.proofs.lemmas.List.{take_all}
use Rattle.ckrt_disk.specs.Disk.{HasFailed}
use Rattle.ckrt_disk.specs.Frame.{IsSameDisk, MayBeLeft}
use Rattle.ckrt_disk.specs.declared.disk.Disk.{Ghosts}
use Rattle.ckrt_events.specs.declared.event.Event.{Event}
use Rattle.ckrt_machine.specs.Events.{fold, output_of}
use Rattle.ckrt_machine.specs.Steps.{State}
use Rattle.ckrt_stored.specs.declared.fault.RecoverFault.TheVariants as recover
use Rattle.ckrt_stored.specs.Format.{IsRefusedBy, format_refusal}
use Rattle.ckrt_stored.specs.Reads.{is_device}
use Rattle.ckrt_stored.specs.declared.fault.RecoverFault.{RecoverFault}
use Rattle.ckrt_stored.specs.Programs.{Program, RecoversTo, RecoversToStart, formatted, start_of, state_after}
use Rattle.ckrt_stored.specs.Progress.{recovered_of}
use Rattle.ckrt_stored.specs.Recovery.{AgreesOnFault, Recovered, Recovers}
use Rattle.ckrt_stored.proofs.RecoverLemmas.{recovers_once}
use Rattle.ckrt_recovery.specs.declared.session.Session.{Session}
use Rattle.ckrt_recovery.specs.Opening.{IsSyncedAndRead}
use Rattle.ckrt_recovery.specs.View.{View, opened, view_of}
use Rattle.ckrt_recovery.specs.Represents.{Represents, RepresentsDisk, acknowledged_of}
use Rattle.ckrt_recovery.specs.Accepts.{Accepts}
use Rattle.ckrt_schedule.specs.declared.next.ScheduleEnd.{ScheduleEnd}
use Rattle.ckrt_hunt_schedules.specs.declared.plan.Plan.{Plan}
use Rattle.ckrt_hunt_schedules.specs.declared.disks.SeedFault.{SeedFault}
use Rattle.ckrt_hunt_schedules.specs.declared.disks.SeedFault.TheVariants as fault
use Rattle.ckrt_hunt_schedules.specs.declared.keeping.KeepFault.{KeepFault}
use Rattle.ckrt_hunt_schedules.specs.declared.keeping.KeepFault.TheVariants as keep
use Rattle.ckrt_hunt_schedules.specs.declared.runs.Told.{Told}
use Rattle.ckrt_hunt_schedules.specs.Kept.{KeepsRun}
use Rattle.ckrt_hunt_schedules.specs.KeptDisks.{FailedIfDevice, HasRun, IsCutShort, IsFailure, IsOverReason, IsReason, IsToldOf}
use Rattle.ckrt_hunt_schedules.specs.Outcomes.{digest_of, outcome_of}
use Rattle.ckrt_hunt_schedules.specs.Runs.{AreScheduled, ComesTo, beginning, behind, next_at}
use Rattle.ckrt_hunt_schedules.proofs.RunLemmas.{same_events}
use Rattle.ckrt_schedule.specs.declared.next.Next.TheVariants.{End}

begins : (program : Program) (image : List ℕ) → RecoversToStart program image → RecoversTo program [] 0 image
begins program image starts = record {
  recovered = formatted program;
  recovers = starts;
  has_events = record { config = refl; accepted = tt; count = refl; state = refl; held = refl; within = omega arith };
  held_from = omega arith;
}

same_recovered : (r s : Recovered) → ◌≡◌ {A = Result Recovered RecoverFault} (Ok r) (Ok s) → r ≡ s
same_recovered r s e = cc

module _ {D : Type 0} {g : Ghosts D} where
  -- with all events acknowledged, whatever a stop leaves recovers to them
  left_all : (program : Program) (events : List Event) (s : Session D g) → Represents program events s → s.acknowledged ≡ s.progress.count → (failed : Bool) → s.failed ≡ failed
      → (image : List ℕ) → MayBeLeft g s.disk image → RecoversTo program events s.progress.confirmed image
  left_all program events s h saved failed is image left = go failed is
    where
      whole : acknowledged_of events s ≡ events
      whole = ap (λ n. take n events) (saved ∙ h.count) ∙ take_all (length events) events (omega arith)

      all : RecoversTo program (acknowledged_of events s) s.progress.confirmed image → RecoversTo program events s.progress.confirmed image
      all to = subst (λ (es : List Event). RecoversTo program es s.progress.confirmed image) whole to

      either : RecoversTo program (acknowledged_of events s) s.progress.confirmed image ⊎ RecoversTo program events s.progress.confirmed image → RecoversTo program events s.progress.confirmed image
      either (inl to) = all to
      either (inr to) = to

      go : (b : Bool) → s.failed ≡ b → RecoversTo program events s.progress.confirmed image
      go false f = all (h.images f image left).to
      go true f = either (h.failed f image left)

  pub has_run : (program : Program) (p : Plan) (disk : D) (first last : Session D g) (ending : ScheduleEnd) → (g.is_honest disk → RecoversToStart program (g.content disk)) → IsSameDisk g disk first.disk
      → (g.is_honest first.disk → Recovers (g.content disk) (Ok (recovered_of first.progress))) → RepresentsDisk disk first → KeepsRun p first last (Ok ending) → g.is_honest last.disk → HasRun g program p last.disk ending
  has_run program p disk first last ending starts same answers represents kept honest =
      let was = kept.accepts.honest honest in
      let start = starts (same.honest was) in
      let is : recovered_of first.progress ≡ formatted program = same_recovered _ _ (recovers_once (g.content disk) (Ok (recovered_of first.progress)) (Ok (formatted program)) (answers was) start) in
      let state : first.progress.machine.state ≡ start_of program = ap (λ (r : Recovered). r.state) is in
      let all : Represents program kept.events last = kept.accepts.represents honest program [] (represents was program [] 0 (begins program (g.content disk) start)) in
      record {
        events = kept.events;
        scheduled = subst (λ (s : State). AreScheduled p kept.events (beginning s)) state kept.scheduled;
        accepted = all.accepted;
        ended = subst (λ (s : State). next_at p (behind p kept.events (beginning s)) ≡ End ending) state kept.ended;
        left = λ image may. (last.progress.confirmed, left_all program kept.events last all kept.saved last.failed refl image may);
      }

  -- a session over a formatted disk stands where its program begins
  begins_with : (program : Program) (disk : D) (first : Session D g) → RecoversToStart program (g.content disk) → Recovers (g.content disk) (Ok (recovered_of first.progress)) → recovered_of first.progress ≡ formatted program
  begins_with program disk first start answers = same_recovered _ _ (recovers_once (g.content disk) (Ok (recovered_of first.progress)) (Ok (formatted program)) answers start)

  -- a run that a session doesn't keep whole
  pub cut_short : (program : Program) (p : Plan) (disk : D) (first last : Session D g) (why : KeepFault) → (g.is_honest disk → RecoversToStart program (g.content disk)) → IsSyncedAndRead g disk first.disk false
      → (g.is_honest first.disk → Recovers (g.content disk) (Ok (recovered_of first.progress))) → RepresentsDisk disk first → view_of first ≡ opened (recovered_of first.progress) → KeepsRun p first last (Err why) → g.is_honest last.disk
      → IsCutShort g program p last.disk why × FailedIfDevice (g.failures disk) (g.failures last.disk) why
  cut_short program p disk first last why starts read answers represents begun kept honest =
      let was = kept.accepts.honest honest in
      let start = starts (read.same.honest was) in
      let is : recovered_of first.progress ≡ formatted program = begins_with program disk first start (answers was) in (
        record {
          first = first;
          last = last;
          begun = begun ∙ ap opened is;
          represents = represents was program [] 0 (begins program (g.content disk) start);
          keeps = kept;
          its_disk = refl;
        },
        failed why kept,
      )
    where
      either : (first.failed ≡ true) ⊎ HasFailed (g.failures first.disk) (g.failures last.disk) → HasFailed (g.failures disk) (g.failures last.disk)
      either (inl f) = let no : true ≡ false = sym f ∙ ap (λ (v : View). v.failed) begun in absurd (cc)
      either (inr h) = subst (λ n. HasFailed n (g.failures last.disk)) (read.well refl) h

      failed : (w : KeepFault) → KeepsRun p first last (Err w) → FailedIfDevice (g.failures disk) (g.failures last.disk) w
      failed keep.Device k = either (k.accepts.failed k.err)
      failed (keep.Refused f) k = tt

  -- why a session over a formatted disk doesn't have a run whole
  pub over_reason : (program : Program) (p : Plan) (disk : D) (first last : Session D g) (f : SeedFault) → 1 ≤ (start_of program).tables.threads.hart_count → (g.is_honest disk → RecoversToStart program (g.content disk)) → IsSyncedAndRead g disk first.disk false
      → (g.is_honest first.disk → Recovers (g.content disk) (Ok (recovered_of first.progress))) → RepresentsDisk disk first → view_of first ≡ opened (recovered_of first.progress) → (g.is_honest last.disk → g.is_honest first.disk) → IsOverReason p first last f → g.is_honest last.disk
      → IsReason g program p disk last.disk f
  over_reason program p disk first last (fault.Format f) harts starts read answers represents begun back why honest = tt
  over_reason program p disk first last (fault.Recover f) harts starts read answers represents begun back why honest =
      let was = back honest in
      let is : recovered_of first.progress ≡ formatted program = begins_with program disk first (starts (read.same.honest was)) (answers was) in
      let same : first.progress.machine.state.tables.threads.hart_count ≡ (start_of program).tables.threads.hart_count = ap (λ (r : Recovered). r.state.tables.threads.hart_count) is in
      absurd (omega (arith, harts, why, same))
  over_reason program p disk first last (fault.Keep f) harts starts read answers represents begun back why honest = cut_short program p disk first last f starts read answers represents begun why honest

  -- why a formatted disk isn't recovered
  pub unrecovered : (program : Program) (before now : D) (f : RecoverFault) → (g.is_honest before → RecoversToStart program (g.content before)) → IsSyncedAndRead g before now (is_device {X = Unit {0}} (Err f)) → (g.is_honest now → AgreesOnFault f (Recovers (g.content before))) → g.is_honest now
      → IsFailure (g.failures before) (g.failures now) f
  unrecovered program before now recover.NotFormatted starts read agrees honest = let no = recovers_once (g.content before) (Err recover.NotFormatted) (Ok (formatted program)) (agrees honest) (starts (read.same.honest honest)) in absurd (cc)
  unrecovered program before now recover.Version starts read agrees honest = let no = recovers_once (g.content before) (Err recover.Version) (Ok (formatted program)) (agrees honest) (starts (read.same.honest honest)) in absurd (cc)
  unrecovered program before now recover.Damaged starts read agrees honest = let no = recovers_once (g.content before) (Err recover.Damaged) (Ok (formatted program)) (agrees honest) (starts (read.same.honest honest)) in absurd (cc)
  unrecovered program before now recover.Device starts read agrees honest = read.fault refl
  unrecovered program before now recover.OutOfMemory starts read agrees honest = tt

  -- what is told of a run is what a disk with the run has
  pub is_told : (program : Program) (p : Plan) (disk : D) (ending : ScheduleEnd) (told : Told) → (has : HasRun g program p disk ending) → ComesTo p (start_of program) told → IsToldOf has told
  is_told program p disk ending told has c =
      let start = start_of program in
      let es : c.events ≡ has.events = same_events p c.events has.events (beginning start) c.ending ending c.scheduled c.ended has.scheduled has.ended in
      let ends : End c.ending ≡ End ending = sym c.ended ∙ ap (λ (es : List Event). next_at p (behind p es (beginning start))) es ∙ has.ended in
      let same : c.ending ≡ ending = cc in
      let outcome : told.outcome ≡ outcome_of ending (state_after program has.events).tables = c.outcome ∙ ap (λ (es : List Event). outcome_of c.ending (fold es start).state.tables) es ∙ ap (λ (e : ScheduleEnd). outcome_of e (state_after program has.events).tables) same in
      record {
        outcome = outcome;
        digest = c.digest ∙ ap (λ (es : List Event). digest_of p.ignores_output told.outcome (output_of es start)) es;
        recovered = λ image may r recovers. (let to = (has.left image may).1 in
            let is : r ≡ to.recovered = same_recovered r to.recovered (recovers_once image (Ok r) (Ok to.recovered) recovers to.recovers) in
            outcome ∙ ap (λ (s : State). outcome_of ending s.tables) (sym (ap (λ (r : Recovered). r.state) is ∙ to.has_events.state)));
      }

  -- what the calls of a session change of its disk
  pub same_by : (events : List Event) (disk : D) (first last : Session D g) → IsSameDisk g disk first.disk → Accepts events first last → IsSameDisk g disk last.disk
  same_by events disk first last same accepts = record {
    honest = λ h. same.honest (accepts.honest h);
    size = accepts.size ∙ same.size;
    named_stop = accepts.named_stop ∙ same.named_stop;
  }

-- one behind another
pub same_through : {D : Type 0} (g : Ghosts D) (a b c : D) → IsSameDisk g a b → IsSameDisk g b c → IsSameDisk g a c
same_through g a b c p q = record {
  honest = λ h. p.honest (q.honest h);
  size = q.size ∙ p.size;
  named_stop = q.named_stop ∙ p.named_stop;
}

-- a program that was formatted has a hart
pub some_harts : (size : ℕ) (program : Program) → IsRefusedBy {X = Unit {0}} (format_refusal size program.config program.image) (Ok tt) → 1 ≤ program.config.harts
some_harts size program made = grind (arith, nat_tests, made)

-- a reason, from a disk on that had failed as often
pub reason_since : {D : Type 0} (g : Ghosts D) (program : Program) (p : Plan) (before mid now : D) (f : SeedFault) → g.failures mid ≡ g.failures before → IsReason g program p mid now f → IsReason g program p before now f
reason_since g program p before mid now (fault.Format f) same r = tt
reason_since g program p before mid now (fault.Recover f) same r = subst (λ n. IsFailure n (g.failures now) f) same r
reason_since g program p before mid now (fault.Keep f) same r = (r.0, subst (λ n. FailedIfDevice n (g.failures now) f) same r.1)
