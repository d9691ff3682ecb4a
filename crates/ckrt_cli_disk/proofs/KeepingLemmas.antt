-- A drive with a history as a drive of its own.
use Rattle.std.proofs.Common.{◌≡◌, ◌-◌, ◌^◌, ℕ, List, Option, Some, None, Result, Ok, Err, IfErr, refl, sym, subst}
use Rattle.std.specs.Prelude.{IfOk, IfSome}
use Rattle.ckrt_disk.specs.declared.disk.Disk.{Ghosts}
use Rattle.ckrt_drive.specs.Runs.{Runs}
use Rattle.ckrt_drive.specs.Stages.{Stage, stage}
use Rattle.ckrt_drive.specs.declared.fault.DriveFault.{DriveFault}
use Rattle.ckrt_drive.specs.declared.fault.DriveFault.TheVariants.{Output}
use Rattle.ckrt_drive.specs.declared.options.Options.{Options}
use Rattle.ckrt_history.specs.Keeping.{RanKeeping, RunsBeside, keeping_stage}
use Rattle.ckrt_history.specs.declared.keeping.Kept.{Kept}
use Rattle.ckrt_history.specs.declared.keeping_fault.KeepingFault.{KeepingFault}
use Rattle.ckrt_history.specs.declared.keeping_fault.KeepingFault.TheVariants.{Device, Drive, Full}
use Rattle.ckrt_history.specs.declared.kept.KeptHistory.{KeptHistory}
use Rattle.ckrt_recovery.specs.declared.session.Session.{Session}
use Rattle.ckrt_schedule.specs.declared.next.ScheduleEnd.{ScheduleEnd}
use Rattle.ckrt_cli_disk.specs.Driving.{DrivesWay, HistoryHolds, TellsOf, driven_of, without_history}
use Rattle.ckrt_cli_disk.proofs.DriveLemmas.{err_kept}
use Rattle.ckrt_cli_reports.specs.declared.driven.Driven.{Driven}

-- WITHOUT A HISTORY

pub tells_alone : (ran : Result (Option ScheduleEnd) DriveFault) → TellsOf (without_history ran) (2 ^ 64 - 1) ran
tells_alone (Ok ending) = (refl, refl)
tells_alone (Err fault) = (refl, refl)

pub holds_alone : (ran : Result (Option ScheduleEnd) DriveFault) → HistoryHolds (without_history ran)
holds_alone (Ok ending) = tt
holds_alone (Err fault) = tt

pub fails_alone : (ran : Result (Option ScheduleEnd) DriveFault) (P : Type 0) → IfErr ran (λ fault. fault ≡ Output → P) → IfErr (without_history ran) (λ fault. fault ≡ Drive Output → P)
fails_alone (Ok ending) P h = tt
fails_alone (Err fault) P h = λ is. h (cc)

-- WITH ONE

module _ {D O : Type 0} {d : Ghosts D} {o : Ghosts O} (options : Options) (x y : Stage d o) where
  -- its own run
  record Own (told : Result (Option ScheduleEnd) KeepingFault) : Type 0 where
    pub ran : Result (Option ScheduleEnd) DriveFault
    pub steps : ℕ
    pub tells : TellsOf told steps ran
    pub runs : Runs o options steps x.left y.left x.session y.session x.output y.output ran

  own : (told : Result (Option ScheduleEnd) KeepingFault) → RunsBeside options (2 ^ 64 - 1) x y told → Own told
  own (Ok ended) runs = record { ran = Ok ended; steps = 2 ^ 64 - 1; tells = (refl, refl); runs = runs }
  own (Err (Drive fault)) runs = record { ran = Err fault; steps = 2 ^ 64 - 1; tells = (refl, refl); runs = runs }
  own (Err Device) (made, few, runs) = record { ran = Ok None; steps = made; tells = (few, refl); runs = runs }
  own (Err Full) (made, few, runs) = record { ran = Ok None; steps = made; tells = (few, refl); runs = runs }

-- what holds at its end holds at that of its own run
own_end : (told : Result (Option ScheduleEnd) KeepingFault) (steps : ℕ) (ran : Result (Option ScheduleEnd) DriveFault) (P : ScheduleEnd → Type 0) → TellsOf told steps ran → IfOk told (λ ended. IfSome ended P) → IfOk ran (λ ended. IfSome ended P)
own_end (Ok ended) steps ran P tells h = subst (λ q. IfOk q (λ e. IfSome e P)) (sym tells.1) h
own_end (Err (Drive fault)) steps ran P tells h = subst (λ q. IfOk q (λ e. IfSome e P)) (sym tells.1) tt
own_end (Err Device) steps ran P tells h = subst (λ q. IfOk q (λ e. IfSome e P)) (sym tells.1) tt
own_end (Err Full) steps ran P tells h = subst (λ q. IfOk q (λ e. IfSome e P)) (sym tells.1) tt

module _ {D O F : Type 0} {d : Ghosts D} {o : Ghosts O} (options : Options) (IsRead : Type 0) (file : Option (List ℕ)) (taken : ℕ) (it : KeptHistory D d) (s : Session D d) (a : O) (ran : Kept D O F D d) where
  pub drives_keeping : RanKeeping options IsRead file (2 ^ 64 - 1) (keeping_stage d (stage o options.events taken s a) it.file it.place) ran
      → (answer : Result Driven KeepingFault) → answer ≡ driven_of ran.session.progress.machine.state ran.answer
      → DrivesWay o (record { options = options; IsRead = IsRead; file = file; taken = taken; history = Some it; kept = Some ran.file }) s ran.session a ran.output answer
  drives_keeping went answer gives =
      let x = stage o options.events taken s a in
      let y = stage o went.left went.taken ran.session ran.output in
      let mine = own options x y ran.answer went.runs.runs in
      record {
        ran = mine.ran;
        steps = mine.steps;
        told = ran.answer;
        tells = mine.tells;
        left = went.left;
        taken = went.taken;
        runs = mine.runs;
        by_steps = went.runs.by_steps;
        over = λ read. own_end ran.answer mine.steps mine.ran _ mine.tells (went.runs.over read);
        gets = record { place = went.place; goes = went.runs.by_keeping; same = went.runs.same };
        gives = gives;
        output = rw gives (err_kept ran.session.progress.machine.state ran.answer _ went.runs.output);
      }
