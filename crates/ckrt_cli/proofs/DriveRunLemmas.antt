-- Runs of the program.
use Rattle.std.proofs.Common.{◌≡◌, inl, inr, ℕ, Bool, true, false, List, length, if◌then◌else◌, Option, Some, None, Result, Ok, Err, refl, sym, ◌∙◌, ap, subst}
use Rattle.std.specs.Prelude.{IfOk, IfSome, nat_le}
use Rattle.ckrt_disk.specs.declared.disk.Disk.{Ghosts}
use Rattle.ckrt_drive.specs.Runs.{IsAtEnd, IsWhyNoMore, Stand, stand_of}
use Rattle.ckrt_drive.specs.Stages.{IsOver, Stage, stage}
use Rattle.ckrt_drive.specs.declared.fault.DriveFault.{DriveFault}
use Rattle.ckrt_drive.specs.declared.options.Options.{Options}
use Rattle.ckrt_schedule.specs.declared.next.ScheduleEnd.{ScheduleEnd}
use Rattle.ckrt_stored.specs.declared.fault.RecoverFault.{RecoverFault}
use Rattle.ckrt_history.specs.declared.kept.KeptHistory.{KeptHistory}
use Rattle.ckrt_cli_disk.specs.Driving.{unfed, with_intake}
use Rattle.ckrt_recovery.specs.Recovered.{IsRecovered}
use Rattle.ckrt_cli_disk.specs.Feeding.{EndsWithRoom, LooksUp, MakesRoom, SuppliesFrom, SuppliesOpened, SuppliesRoomy, SuppliesTaken, taken_by_words}
use Rattle.ckrt_cli_files.specs.Openings.{Openings, with_lengthened}
use Rattle.ckrt_cli_files.specs.Sources.{Gives}
use Rattle.ckrt_cli_reports.specs.declared.fault.JobFault.{JobFault}
use Rattle.ckrt_cli_reports.specs.declared.fault.JobFault.TheVariants as job
use Rattle.ckrt_cli_disk.specs.declared.feeding.Intake.{Intake}
use Rattle.ckrt_cli_disk.specs.declared.feeding.Supplied.{Supplied}
use Rattle.ckrt_cli_disk.specs.declared.feeding.Unready.{Unready}
use Rattle.ckrt_drive.specs.Offset.{Tells, offset_from}
use Rattle.ckrt_drive.specs.declared.offset_fault.OffsetFault.{OffsetFault}
use Rattle.ckrt_drive.specs.declared.offset_fault.OffsetFault.TheVariants.{Unrecovered, NotRecorded}
use Rattle.ckrt_cli.specs.Runs.{IsJoined, IsRun, ProgramRun, TellsAsBefore, TellsIfLonger, drive_of, way_of_run}
use Rattle.ckrt_drive.specs.Drives.{IsToldByRecord}
use Rattle.ckrt_cli_disk.specs.Noting.{Notes}
use Rattle.ckrt_stored.specs.declared.schedule.ScheduleNote.{ScheduleNote}
use Rattle.ckrt_drive.proofs.DriveLemmas.{disk_honest}
use Rattle.ckrt_drive.proofs.LengtheningLemmas.{no_fields, tells_same}
use Rattle.ckrt_cli.proofs.JoinedLemmas.{honest_before, reads_as_before}

-- IT IS A DRIVE

ends_saved : (options : Options) (steps made : ℕ) (x y : Stand) (r : Result (Option ScheduleEnd) DriveFault) (ending : ScheduleEnd) → IsWhyNoMore options steps made x y r → r ≡ Ok (Some ending) → IsAtEnd y.left y.view ending
ends_saved options steps made x y r ending why is = let h = subst (IsWhyNoMore options steps made x y) is why in h.2

over_at : (r : Result (Option ScheduleEnd) DriveFault) (P : ScheduleEnd → Type 0) (ending : ScheduleEnd) → IfOk r (λ ended. IfSome ended P) → r ≡ Ok (Some ending) → P ending
over_at r P ending h is = subst (λ q. IfOk q (λ ended. IfSome ended P)) is h

module _ {D O : Type 0} (d : Ghosts D) (o : Ghosts O) (r : ProgramRun d o) where
  pub is_run : IsRecovered d r.start r.before → d.is_honest r.after.disk → o.is_honest r.end → (way_of_run r).IsRead → IsRun r
  is_run recovered honest whole read =
      let run = r.drives in
      let why = run.runs.goes.why in
      record {
        is = λ at. record { recovered = recovered; goes = run.by_steps.goes; supplied = run.by_steps.supplied read; honest = honest; output_honest = whole };
        ends = λ ending is. ends_saved (way_of_run r).options run.steps (length run.runs.goes.did) run.runs.goes.last (stand_of run.left r.after) run.ran ending why is;
        over = λ ending is. over_at run.ran (IsOver (way_of_run r).options (way_of_run r).file (stage o run.left run.taken r.after r.end)) ending (run.over read) is;
      }

-- IT IS TOLD BY THE RECORD

if_taken : (b : Bool) (n m : ℕ) → ◌≡◌ {A = Result ℕ JobFault} (Ok n) (if b then Ok m else Err (job.OffsetDiffers m)) → n ≡ m
if_taken true n m is = cc
if_taken false n m is = absurd (cc)

-- what is said to be taken the disk told
taken_told : (from : Option ℕ) (told : Result ℕ OffsetFault) (n : ℕ) → ◌≡◌ {A = Result ℕ JobFault} (Ok n) (taken_by_words from told) → told ≡ Ok n
taken_told None (Ok m) n is = let same : n ≡ m = cc in ap (λ (k : ℕ). Ok k) (sym same)
taken_told (Some k) (Ok m) n is = ap (λ (k : ℕ). Ok k) (sym (if_taken (nat_le k m) n m is))
taken_told None (Err NotRecorded) n is = absurd (cc)
taken_told (Some k) (Err NotRecorded) n is = absurd (cc)
taken_told None (Err (Unrecovered fault)) n is = absurd (cc)
taken_told (Some k) (Err (Unrecovered fault)) n is = absurd (cc)

module _ {D : Type 0} (d : Ghosts D) (gives : Gives D) (from : Option ℕ) where
  -- a disk and its input, of which the disk tells what was taken
  record IsTelling (s : Supplied D) : Type 0 where
    pub it : Intake D
    pub is : s.intake ≡ Some it
    pub tells : offset_from from (d.content s.disk) ≡ Ok (Some it.taken)

  -- a disk with room for the record tells as much as the one that was looked at
  with_room : (size : Result ℕ RecoverFault) (looked disk : D) (old asked : Openings D) → EndsWithRoom d gives.Longer looked old asked (Ok disk) size → (asked ≡ with_lengthened old looked → TellsAsBefore d looked disk) → d.is_honest disk
      → d.is_honest looked × (offset_from from (d.content disk) ≡ offset_from from (d.content looked))
  with_room (Err fault) looked disk old asked ends law honest = let no : ◌≡◌ {A = Result D (Unready D)} (Ok disk) (Err (record { disk = looked; fault = job.Recover fault })) = ends.0 in absurd (cc)
  with_room (Ok size) looked disk old asked (inl has) law honest =
      let made : ◌≡◌ {A = Result D (Unready D)} (Ok disk) (Ok looked) = has.is in
      let same : disk ≡ looked = cc in
      (subst d.is_honest same honest, ap (λ (q : D). offset_from from (d.content q)) same)
  with_room (Ok size) looked disk old asked (inr (inl gets)) law honest =
      let told = law gets.asks in
      (told.honest honest, told.told from)
  with_room (Ok size) looked disk old asked (inr (inr lacks)) law honest = let no = lacks.is in absurd (cc)

  -- so does the one that was supplied
  with_input : (s : Supplied D) (it : Intake D) (start : D) (old asked new : Openings D) (made : Result D (Unready D)) → SuppliesRoomy it asked new (Ok s) made → MakesRoom d gives.Longer start old asked made → ((looked : D) → new ≡ with_lengthened old looked → TellsAsBefore d looked s.disk) → d.is_honest s.disk
      → (d.is_honest start → offset_from from (d.content start) ≡ Ok (Some it.taken)) → IsTelling s
  with_input s it start old asked new (Err unready) ends room law honest tells = let no : ◌≡◌ {A = Result (Supplied D) JobFault} (Ok s) (Err unready.fault) = ends.0 in absurd (cc)
  with_input s it start old asked new (Ok disk) ends room law honest tells =
      let found : ◌≡◌ {A = Result (Supplied D) JobFault} (Ok s) (Ok (record { disk = disk; intake = Some it })) = ends.0 in
      let same : s ≡ record { disk = disk; intake = Some it } = cc in
      let roomy = with_room room.size room.disk disk old asked room.ends (λ asks. subst (λ (q : Supplied D). TellsAsBefore d room.disk q.disk) same (law room.disk (ends.1 ∙ asks))) (subst (λ (q : Supplied D). d.is_honest q.disk) same honest) in
      record {
        it = it;
        is = ap (λ (q : Supplied D). q.intake) same;
        tells = ap (λ (q : Supplied D). offset_from from (d.content q.disk)) same ∙ (roomy.1 ∙ (ap (offset_from from) (room.read.content roomy.0) ∙ tells (room.read.same.honest roomy.0)));
      }

  with_opened : (s : Supplied D) (it : Intake D) (disk : D) (old new : Openings D) → SuppliesOpened d gives.Longer disk it old new (Ok s) → ((looked : D) → new ≡ with_lengthened old looked → TellsAsBefore d looked s.disk) → d.is_honest s.disk → (d.is_honest disk → offset_from from (d.content disk) ≡ Ok (Some it.taken)) → IsTelling s
  with_opened s it disk old new (inl refuses) law honest tells = let no = refuses.is in absurd (cc)
  with_opened s it disk old new (inr takes) law honest tells = with_input s it disk old takes.asked new takes.made takes.ends takes.room law honest tells

  with_taken : (s : Supplied D) (path : List ℕ) (found disk : D) (old new : Openings D) (taken : Result ℕ JobFault) → LooksUp d from found disk taken → SuppliesTaken d gives path disk old new (Ok s) taken → TellsIfLonger d old new s.disk → d.is_honest s.disk → IsTelling s
  with_taken s path found disk old new (Err fault) looks ends law honest = let no : ◌≡◌ {A = Result (Supplied D) JobFault} (Ok s) (Err fault) = ends.0 in absurd (cc)
  with_taken s path found disk old new (Ok n) looks (inl lacks) law honest = let no = lacks.is in absurd (cc)
  with_taken s path found disk old new (Ok n) looks (inr opens) law honest =
      let is = taken_told from looks.told n looks.says in
      with_opened s (record { file = opens.input; taken = n }) disk _ new opens.ends (λ looked asks. law looked (ap (λ (q : Openings D). q.lengthened) asks)) honest (λ fine. ap (offset_from from) (looks.read.content fine) ∙ subst (λ (q : Result ℕ OffsetFault). Tells q (offset_from from (d.content found))) is (looks.exact fine))

  -- A RUN

  told_way : (options : Options) (history : Option (KeptHistory D d)) (kept : Option D) (start : D) (intake : Option (Intake D)) (input : Option D) (it : Intake D) → intake ≡ Some it → offset_from from (d.content start) ≡ Ok (Some it.taken)
      → IfSome (with_intake d (unfed options history kept) intake input).file (λ bytes. (said : Option ℕ) × (offset_from said (d.content start) ≡ Ok (Some (with_intake d (unfed options history kept) intake input).taken)))
  told_way options history kept start None input it is tells = tt
  told_way options history kept start (Some x) None it is tells = tt
  told_way options history kept start (Some x) (Some end) it is tells = let same : it ≡ x = cc in (from, tells ∙ ap (λ (q : Intake D). Ok (Some q.taken)) same)

  pub told_by_record : {O : Type 0} (o : Ghosts O) (r : ProgramRun d o) (found supplied noted : D) (path : List ℕ) (old new : Openings D) (schedule : ScheduleNote) → TellsIfLonger d old new supplied
      → SuppliesFrom d gives path from found old new (Ok (record { disk = supplied; intake = r.beside.intake }))
      → Notes d schedule supplied noted (Ok tt) → IsJoined d noted r.start → IsRecovered d r.start r.before → d.is_honest r.after.disk → (at : Stage d o) → IsToldByRecord (drive_of r at)
  told_by_record o r found supplied noted path old new schedule law supplies notes joined recovered honest at =
      let v = drive_of r at in
      let fine = recovered.disk.same.honest (disk_honest d o v.options v.stages v.first v.last r.drives.by_steps.goes honest) in
      let fine_noted = honest_before d noted r.start joined fine in
      let it = with_taken (record { disk = supplied; intake = r.beside.intake }) path found supplies.disk old new supplies.taken supplies.looks supplies.ends law (notes.within.same.honest fine_noted) in
      told_way r.options r.beside.history r.left.history r.start r.beside.intake r.left.input it.it it.is
      (ap (offset_from from) (reads_as_before d noted r.start joined fine)
      ∙ (tells_same (d.content supplied) (d.content noted) (no_fields (d.content supplied) (d.content noted) (notes.within.content refl fine_noted)) from ∙ it.tells))
