-- Drives with an input: what each is told, and what they give of it.
use Rattle.std.proofs.Common.{◌≡◌, ℕ, Option, Some, None, List, [], ◌∷◌, ◌++◌, length, drop, Result, Ok, refl, sym, ◌∙◌, ap, subst}
use Rattle.std.specs.Prelude.{IfSome}
use Rattle.ckrt_stored.specs.declared.area.Area.{Area}
use Rattle.ckrt_stored.specs.declared.config.Config.{Config}
use Rattle.ckrt_disk.specs.Frame.{MayBeLeft}
use Rattle.ckrt_disk.specs.declared.disk.Disk.{Ghosts}
use Rattle.ckrt_events.specs.declared.event.Event.{Event}
use Rattle.ckrt_stored.specs.Programs.{Program, RecoversTo, RecoversToStart, start_of}
use Rattle.ckrt_stored.specs.Recovery.{◌>>=◌, events_of_batches}
use Rattle.ckrt_stored.specs.declared.fault.RecoverFault.{RecoverFault}
use Rattle.ckrt_schedule.specs.Next.{AreGiven}
use Rattle.ckrt_schedule.specs.Taken.{bytes_of, taken_by}
use Rattle.ckrt_schedule.proofs.NextLemmas.{beginning, end_behind, goes_on}
use Rattle.ckrt_journal.specs.declared.fault.JournalFault.{JournalFault}
use Rattle.ckrt_machine.specs.Events.{step}
use Rattle.ckrt_machine.specs.Steps.{State}
use Rattle.ckrt_drive.specs.Fed.{IsFed}
use Rattle.ckrt_drive.specs.Offset.{journaled, offset_from, or_said, saved_offset, taken_in, with_saved}
use Rattle.ckrt_drive.proofs.FedLemmas.{as_recovered, begins, taken-append}
use Rattle.ckrt_disk.specs.Lists.{IsBeginningOf}
use Rattle.ckrt_drive.specs.ByPlan.{Course}
use Rattle.ckrt_drive.specs.Drives.{AllHaveInput, AllKeep, AllOnCourse, AllTold, AllToldByRecord, ComeBehind, IsTold, IsToldByRecord, Keeps, OneDrive, course_of, past_behind}
use Rattle.ckrt_drive.specs.Giving.{AllGiveFile, GiveFile}
use Rattle.ckrt_drive.specs.Together.{HoldsBetween, Past, StandsFed, past}
use Rattle.ckrt_drive.proofs.DriveLemmas.{itself}
use Rattle.ckrt_drive.proofs.FedSteps.{begins_once}
use Rattle.ckrt_drive.proofs.InputLemmas.{given_by_plan}
use Rattle.ckrt_drive.proofs.LeftLemmas.{starts_formatted}

-- a formatted disk keeps that nothing was taken
pub formatted_fed : {D : Type 0} (d : Ghosts D) (file : Option (List ℕ)) (p : Program) (old : List ℕ) (disk : D) → ((image : List ℕ) → MayBeLeft d disk image → RecoversToStart p image) → StandsFed d file (past p old [] []) disk
formatted_fed d (Some bytes) p old disk made = λ image may.
    record { all = []; begins = ([], refl); within = ([], refl); to = 0; held = (starts_formatted p image (made image may), begins p image (made image may)) }
formatted_fed d None p old disk made = tt

-- WHAT IS GIVEN

-- a beginning of what is given is given
given_front : (xs ys : List Event) (file : List ℕ) (s : State) → AreGiven (xs ++ ys) file s → AreGiven xs file s
given_front [] ys file s h = tt
given_front (x ∷ xs) ys file s h = (h.0, given_front xs ys (drop (length (bytes_of x)) file) (step x s).state h.1)

pub gives : (file : List ℕ) (events : List Event) (p : Program) → AreGiven events file (start_of p) → GiveFile events file
gives file events p given =
    let b = beginning events file (start_of p) given in
    record {
      rest = b.0;
      beginning = b.1;
      end = λ front back is. end_behind front back file (start_of p) (subst (λ (l : List Event). AreGiven l file (start_of p)) is given);
    }

-- WHAT A DRIVE IS TOLD

said_beside : (n : ℕ) (said : Option ℕ) → or_said (Some n) said ≡ Some n
said_beside n None = refl
said_beside n (Some other) = refl

-- an image that keeps what its events took tells that, whatever somebody says beside
pub tells_from : (said : Option ℕ) (events : List Event) (image : List ℕ) → IsFed events image → offset_from said image ≡ Ok (Some (taken_by events))
tells_from said events image is =
    let f = is.fed in
    ap (λ (u : Result (Config × Area) RecoverFault). u >>= λ used. taken_in (journaled used.0 used.1 image) >>= λ more. Ok (with_saved (or_said (saved_offset used.0 used.1 image) said) more)) is.used
    ∙ ap (λ (j : Result (List (List ℕ)) JournalFault). taken_in j >>= λ more. Ok (with_saved (or_said (saved_offset is.config is.area image) said) more)) f.chain
    ∙ ap (λ (o : Option ℕ). Ok (with_saved (or_said o said) (taken_by (events_of_batches f.batches)))) f.known
    ∙ ap (λ (o : Option ℕ). Ok (with_saved o (taken_by (events_of_batches f.batches)))) (said_beside (taken_by f.saved) said)
    ∙ ap (λ n. Ok (Some n)) (sym (ap taken_by f.all ∙ taken-append f.saved (events_of_batches f.batches)))

same_offset : (n m : ℕ) (o : Result (Option ℕ) RecoverFault) → o ≡ Ok (Some n) → o ≡ Ok (Some m) → n ≡ m
same_offset n m o is are = let same : ◌≡◌ {A = Result (Option ℕ) RecoverFault} (Ok (Some n)) (Ok (Some m)) = sym is ∙ are in cc

module _ {D : Type 0} (d : Ghosts D) where
  -- what the record says is what those events took that were recovered
  told_by : (file : Option (List ℕ)) (taken : ℕ) (h : Past) (start : D) (opened : List Event) (from : ℕ) → RecoversTo h.program opened from (d.content start) → IsBeginningOf opened h.accepted → StandsFed d file h start
      → IfSome file (λ bytes. (said : Option ℕ) × (offset_from said (d.content start) ≡ Ok (Some taken))) → IsTold file taken opened
  told_by (Some bytes) taken h start opened from recovers within stand told =
      let image = d.content start in
      let k : HoldsBetween IsFed h image = stand image (itself d start) in
      let same : opened ≡ k.all = begins_once opened k.all h.accepted within k.within (as_recovered h.program opened k.all from image recovers k.held.1) in
      same_offset taken (taken_by k.all) (offset_from told.0 image) told.1 (tells_from told.0 k.all image k.held.1) ∙ ap taken_by (sym same)
  told_by None taken h start opened from recovers within stand told = tt

module _ {D O : Type 0} {d : Ghosts D} {o : Ghosts O} where
  pub is_told : (h : Past) (v : OneDrive d o) (k : Keeps h v) → StandsFed d v.file h v.start → IsToldByRecord v → IsTold v.file v.first.taken k.opened
  is_told h v k stand told = told_by d v.file v.first.taken h v.start k.opened k.from k.recovers k.within stand told

  -- and so it goes on to the next drive
  next_fed : (file : Option (List ℕ)) (h : Past) (v w : OneDrive d o) (k : Keeps h v) → v.file ≡ file → StandsFed d v.file h v.start → IsToldByRecord v → ComeBehind v (w ∷ []) → StandsFed d file (past_behind v k) w.start
  next_fed file h v w k same stand told behind =
      subst (λ f. StandsFed d f (past_behind v k) w.start) same (k.fed stand (is_told h v k stand told) v.at w.start w.first.output behind.0)

  pub are_told : (file : Option (List ℕ)) (h : Past) (v : OneDrive d o) (more : List (OneDrive d o)) → AllHaveInput file (v ∷ more) → StandsFed d file h v.start → AllToldByRecord (v ∷ more) → ComeBehind v more
      → (keep : AllKeep h (v ∷ more)) → AllTold h (v ∷ more) keep
  are_told file h v [] same stand told behind keep = (is_told h v keep.0 (subst (λ f. StandsFed d f h v.start) (sym same.0) stand) told.0, tt)
  are_told file h v (w ∷ more) same stand told behind keep =
      let there = subst (λ f. StandsFed d f h v.start) (sym same.0) stand in (
        is_told h v keep.0 there told.0,
        are_told file (past_behind v keep.0) w more same.1 (next_fed file h v w keep.0 same.0 there told.0 (behind.0, behind.1, tt)) told.1 behind.2 keep.1,
      )

  -- drives on one course have one input
  pub one_input : (u : Course) (drives : List (OneDrive d o)) → AllOnCourse u drives → AllHaveInput u.file drives
  one_input u [] same = tt
  one_input u (v ∷ more) same = (ap (λ (c : Course). c.file) same.0, one_input u more same.1)

  -- WHAT DRIVES GIVE

  -- the events of a drive are given behind those that it recovered
  pub drive_given : (file : List ℕ) (h : Past) (v : OneDrive d o) (k : Keeps h v) → v.file ≡ Some file → IsTold v.file v.first.taken k.opened → AreGiven h.accepted file (start_of h.program) → AreGiven k.all file (start_of h.program)
  drive_given file h v k has told given =
      let plan = k.by_plan told in
      let first = given_front k.opened k.within.0 file (start_of h.program) (subst (λ (l : List Event). AreGiven l file (start_of h.program)) k.within.1 given) in
      let rest = given_by_plan (course_of v) h.program file k.opened plan.rest has plan.by_plan in
      subst (λ (l : List Event). AreGiven l file (start_of h.program)) (sym plan.is) (goes_on k.opened plan.rest file (start_of h.program) first rest)

  pub give_file : (file : List ℕ) (h : Past) (v : OneDrive d o) (more : List (OneDrive d o)) → AreGiven h.accepted file (start_of h.program) → AllHaveInput (Some file) (v ∷ more) → StandsFed d (Some file) h v.start → AllToldByRecord (v ∷ more) → ComeBehind v more
      → (keep : AllKeep h (v ∷ more)) → AllGiveFile file h (v ∷ more) keep
  give_file file h v [] given same stand told behind keep =
      let there = subst (λ f. StandsFed d f h v.start) (sym same.0) stand in
      (gives file keep.0.all h.program (drive_given file h v keep.0 same.0 (is_told h v keep.0 there told.0) given), tt)
  give_file file h v (w ∷ more) given same stand told behind keep =
      let there = subst (λ f. StandsFed d f h v.start) (sym same.0) stand in
      let all = drive_given file h v keep.0 same.0 (is_told h v keep.0 there told.0) given in (
        gives file keep.0.all h.program all,
        give_file file (past_behind v keep.0) w more all same.1 (next_fed (Some file) h v w keep.0 same.0 there told.0 (behind.0, behind.1, tt)) told.1 behind.2 keep.1,
      )
