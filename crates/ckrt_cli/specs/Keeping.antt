-- The disk that a run of a hunt is kept on: made beside its path, and named once it has the whole run.
use Rattle.std.specs.Prelude.{◌≡◌, ◌⊎◌, ℕ, List, Result, Ok, Err}
use Rattle.ckrt_disk.specs.Frame.{IsSameDisk}
use Rattle.ckrt_disk.specs.declared.disk.Disk.{Ghosts}
use Rattle.ckrt_stored.specs.Programs.{Program}
use Rattle.ckrt_stored.specs.declared.fault.RecoverFault.TheVariants as recover
use Rattle.ckrt_schedule.specs.declared.next.ScheduleEnd.{ScheduleEnd}
use Rattle.ckrt_hunt_schedules.specs.KeptDisks.{KeepsSeed}
use Rattle.ckrt_hunt_schedules.specs.declared.disks.KeptDisk.{KeptDisk}
use Rattle.ckrt_hunt_schedules.specs.declared.disks.SeedFault.{SeedFault}
use Rattle.ckrt_hunt_schedules.specs.declared.disks.SeedFault.TheVariants as fault
use Rattle.ckrt_hunt_schedules.specs.declared.keeping.KeepFault.{KeepFault}
use Rattle.ckrt_hunt_schedules.specs.declared.keeping.KeepFault.TheVariants as keep
use Rattle.ckrt_hunt_schedules.specs.declared.plan.Plan.{Plan}
use Rattle.ckrt_cli_files.specs.Openings.{Openings, opened, with_abandoned, with_closed, with_making, with_named}
use Rattle.ckrt_cli_files.specs.declared.file.JobFile.TheVariants as file
use Rattle.ckrt_cli_reports.specs.Outside.{Lacks}
use Rattle.ckrt_cli_reports.specs.declared.fault.JobFault.{JobFault}
use Rattle.ckrt_cli_reports.specs.declared.fault.JobFault.TheVariants as job

-- what the job answers where a run wasn't kept
abbrev pub keep_fault_of : KeepFault → JobFault
keep_fault_of keep.Device = job.Recover recover.Device
keep_fault_of (keep.Refused why) = job.RunTooLong

abbrev pub fault_of : SeedFault → JobFault
fault_of (fault.Format f) = job.Format f
fault_of (fault.Recover f) = job.Recover f
fault_of (fault.Keep f) = keep_fault_of f

-- only a disk that has the whole run gets a name, and any other is given up
abbrev pub EndsKeeping : {D : Type 0} → (path : List ℕ) → (end : D) → (asked new : Openings D)
    → Result ScheduleEnd SeedFault → Result (Unit {0}) JobFault → Type 0
EndsKeeping path end asked new (Ok ending) result =
    ((result ≡ Ok tt) × (new ≡ with_closed (with_named asked (opened path) end) end))
    ⊎ Lacks file.Making path (λ x. with_abandoned (with_named asked x end) end) new result
EndsKeeping path end asked new (Err f) result =
    (result ≡ Err (fault_of f)) × (new ≡ with_abandoned asked end)

-- What is kept: the run of a program by a plan, on a disk of a path; and the disks that may be made for that.
pub record Keeping (D : Type 0) : Type 1 where
  pub program : Program
  pub plan : Plan
  pub path : List ℕ
  pub Fills : D → Type 0

-- the run was kept on a disk that was made
pub record KeepsOn {D : Type 0} (d : Ghosts D) (it : Keeping D) (asked new : Openings D)
    (result : Result (Unit {0}) JobFault) : Type 0 where
  pub start : D
  pub is_made : it.Fills start
  pub kept : KeptDisk D
  pub keeps : KeepsSeed d it.program it.plan kept
  pub same : IsSameDisk d start kept.disk
  pub ends : EndsKeeping it.path kept.disk asked new kept.result result

abbrev pub Keeps : {D : Type 0} → Ghosts D → Keeping D → (old new : Openings D)
    → Result (Unit {0}) JobFault → Type 0
Keeps d it old new result =
    Lacks file.Making it.path (with_making old) new result
    ⊎ KeepsOn d it (with_making old (opened it.path)) new result
