-- The run of a seed on a disk of its own: what whatever a stop leaves of the disk recovers to.
use Rattle.std.specs.Prelude.{◌≡◌, ℕ, List, [], Option, Some, None, Result, Ok, Err, IfErr, IfOk}
use Rattle.ckrt_disk.specs.Disk.{HasFailed}
use Rattle.ckrt_disk.specs.Frame.{MayBeLeft}
use Rattle.ckrt_disk.specs.declared.disk.Disk.{Ghosts}
use Rattle.ckrt_events.specs.declared.event.Event.{Event}
use Rattle.ckrt_machine.specs.Events.{AllAccepted}
use Rattle.ckrt_stored.specs.Format.{IsRefusal}
use Rattle.ckrt_stored.specs.Programs.{Program, RecoversTo, formatted, output_after, start_of, state_after}
use Rattle.ckrt_stored.specs.Recovery.{Recovered, Recovers}
use Rattle.ckrt_stored.specs.declared.fault.FormatFault.{FormatFault}
use Rattle.ckrt_stored.specs.declared.fault.RecoverFault.{RecoverFault}
use Rattle.ckrt_stored.specs.declared.fault.RecoverFault.TheVariants.{NotFormatted, Version, Damaged, Device, OutOfMemory}
use Rattle.ckrt_recovery.specs.declared.session.Session.{Session}
use Rattle.ckrt_recovery.specs.Represents.{Represents}
use Rattle.ckrt_recovery.specs.View.{opened, view_of}
use Rattle.ckrt_schedule.specs.declared.next.Next.TheVariants.{End}
use Rattle.ckrt_schedule.specs.declared.next.ScheduleEnd.{ScheduleEnd}
use Rattle.ckrt_hunt_schedules.specs.Kept.{KeepsRun}
use Rattle.ckrt_hunt_schedules.specs.Outcomes.{digest_of, outcome_of}
use Rattle.ckrt_hunt_schedules.specs.Runs.{AreScheduled, beginning, behind, next_at}
use Rattle.ckrt_hunt_schedules.specs.declared.disks.KeptDisk.{KeptDisk}
use Rattle.ckrt_hunt_schedules.specs.declared.disks.SeedFault.{SeedFault}
use Rattle.ckrt_hunt_schedules.specs.declared.disks.SeedFault.TheVariants as fault
use Rattle.ckrt_hunt_schedules.specs.declared.keeping.KeepFault.{KeepFault}
use Rattle.ckrt_hunt_schedules.specs.declared.keeping.KeepFault.TheVariants as keep
use Rattle.ckrt_hunt_schedules.specs.declared.plan.Plan.{Plan}
use Rattle.ckrt_hunt_schedules.specs.declared.runs.Told.{Told}

-- A disk has the run of a plan, from the beginning of a program to this ending: its events are all of the schedule's, and whatever a stop leaves
-- of the disk recovers to just these.
pub record HasRun {D : Type 0} (d : Ghosts D) (program : Program) (p : Plan) (disk : D) (ending : ScheduleEnd)
    : Type 0 where
  pub events : List Event
  pub scheduled : AreScheduled p events (beginning (start_of program))
  pub accepted : AllAccepted events (start_of program)
  pub ended : next_at p (behind p events (beginning (start_of program))) ≡ End ending
  pub left : (image : List ℕ) → MayBeLeft d disk image
      → (limit : ℕ) × RecoversTo program events limit image

-- an honest disk has it
abbrev pub KeepsSeed : {D : Type 0} → Ghosts D → Program → Plan → KeptDisk D → Type 0
KeepsSeed d program p kept =
    IfOk kept.result (λ ending. d.is_honest kept.disk → HasRun d program p kept.disk ending)

-- a fault of formatting that is no refusal
abbrev pub IsNoRefusal : SeedFault → Type 0
IsNoRefusal (fault.Format f) = ¬ IsRefusal f
IsNoRefusal (fault.Recover f) = Unit {0}
IsNoRefusal (fault.Keep f) = Unit {0}

-- it is refused exactly where formatting refuses, and by what formatting does
abbrev pub IsRefusedAsFormat : Option FormatFault → Result ScheduleEnd SeedFault → Type 0
IsRefusedAsFormat (Some f) result = result ≡ Err (fault.Format f)
IsRefusedAsFormat None result = IfErr result IsNoRefusal

-- WHY A DISK DOESN'T HAVE IT

-- A session over the disk of a program before its first event took the events of the schedule, up to one that it refuses so, or until the disk
-- failed it. This is its disk.
pub record IsCutShort {D : Type 0} (d : Ghosts D) (program : Program) (p : Plan) (disk : D) (why : KeepFault)
    : Type 0 where
  pub first : Session D d
  pub last : Session D d
  pub begun : view_of first ≡ opened (formatted program)
  pub represents : Represents program [] first
  pub keeps : KeepsRun p first last (Err why)
  pub its_disk : last.disk ≡ disk

-- where the disk is the reason, it has failed a call
abbrev pub FailedIfDevice : (before now : ℕ) → KeepFault → Type 0
FailedIfDevice before now keep.Device = HasFailed before now
FailedIfDevice before now (keep.Refused why) = Unit {0}

-- an honest disk that was formatted is recovered, but where it failed a call, or there was no memory
abbrev pub IsFailure : (before now : ℕ) → RecoverFault → Type 0
IsFailure before now Device = HasFailed before now
IsFailure before now OutOfMemory = Unit {0}
IsFailure before now NotFormatted = ⊥
IsFailure before now Version = ⊥
IsFailure before now Damaged = ⊥

-- why a disk doesn't have the run, beside formatting
abbrev pub IsReason : {D : Type 0} → Ghosts D → Program → Plan → (before now : D) → SeedFault → Type 0
IsReason d program p before now (fault.Format f) = Unit {0}
IsReason d program p before now (fault.Recover f) = IsFailure (d.failures before) (d.failures now) f
IsReason d program p before now (fault.Keep f) =
    IsCutShort d program p now f × FailedIfDevice (d.failures before) (d.failures now) f

-- an honest disk that doesn't have it has such a reason
abbrev pub HasReason : {D : Type 0} → Ghosts D → Program → Plan → (before : D) → KeptDisk D → Type 0
HasReason d program p before kept =
    d.is_honest kept.disk → IfErr kept.result (IsReason d program p before kept.disk)

-- the same over a session, which has no hart, or took the run up to there
abbrev pub IsOverReason : {D : Type 0} → {g : Ghosts D} → Plan → (old new : Session D g) → SeedFault → Type 0
IsOverReason p old new (fault.Format f) = ⊥
IsOverReason p old new (fault.Recover f) = old.progress.machine.state.tables.threads.hart_count ≡ 0
IsOverReason p old new (fault.Keep f) = KeepsRun p old new (Err f)

-- WHAT IS TOLD OF IT

-- What is told of a run is what a disk with the run has: it is what the plain fold over its events comes to, and so what any state that the disk
-- recovers to does.
pub record IsToldOf {D : Type 0} {d : Ghosts D} {program : Program} {p : Plan} {disk : D} {ending : ScheduleEnd}
    (has : HasRun d program p disk ending) (told : Told) : Type 0 where
  pub outcome : told.outcome ≡ outcome_of ending (state_after program has.events).tables
  pub digest : told.digest ≡ digest_of p.ignores_output told.outcome (output_after program has.events)
  pub recovered : (image : List ℕ) → MayBeLeft d disk image → (r : Recovered) → Recovers image (Ok r)
      → told.outcome ≡ outcome_of ending r.state.tables
