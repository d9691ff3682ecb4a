-- What a disk or a history holds as a core: in a file beside the path that it is for, which gets that path once it is whole and durable. So at every moment
-- what had the path stands there, or the whole core.
use Rattle.std.specs.Prelude.{◌≡◌, ◌≢◌, ◌⊎◌, ◌≤◌, ◌<◌, ◌+◌, ℕ, Bool, true, false, List, length, take, Option, Some, None, Result, Ok, Err, OnOk, IfErr}
use Rattle.ckrt_gdb_forms.specs.Core.{core_of}
use Rattle.ckrt_disk.specs.Disk.{HasFailed}
use Rattle.ckrt_disk.specs.Frame.{IsOnlyRead}
use Rattle.ckrt_disk.specs.declared.disk.Disk.{Ghosts}
use Rattle.ckrt_events.specs.declared.event.Event.{Event}
use Rattle.ckrt_machine.specs.Events.{AllAccepted, Machine, fold}
use Rattle.ckrt_machine.specs.Steps.{State}
use Rattle.ckrt_history.specs.declared.fault.HistoryFault.{HistoryFault}
use Rattle.ckrt_look_recording.specs.Recording.{Recorded, recorded_of}
use Rattle.ckrt_look_recording.specs.declared.recording.Recording.{Recording}
use Rattle.ckrt_stored.specs.Progress.{recovered_of}
use Rattle.ckrt_stored.specs.declared.progress.Progress.{Progress}
use Rattle.ckrt_inspect.specs.Inspect.{AgreesAt, is_device}
use Rattle.ckrt_inspect.specs.declared.fault.InspectFault.{InspectFault}
use Rattle.ckrt_inspect.specs.declared.fault.InspectFault.TheVariants as inspect
use Rattle.ckrt_cli_words.specs.Jobs.{CoreMaking}
use Rattle.ckrt_look_calls.specs.declared.stretch.Stretch.{Stretch}
use Rattle.ckrt_cli_disk.specs.Near.{ReadsNear, with_snapshot_closed}
use Rattle.ckrt_cli_disk.specs.declared.near.NearRead.{NearRead}
use Rattle.ckrt_cli_files.specs.Openings.{Openings, opened, with_abandoned, with_closed, with_closed_output, with_disk, with_making, with_named}
use Rattle.ckrt_cli_reports.specs.Outside.{Lacks}
use Rattle.ckrt_cli_reports.specs.declared.fault.JobFault.{JobFault}
use Rattle.ckrt_cli_reports.specs.declared.fault.JobFault.TheVariants as job
use Rattle.ckrt_cli_files.specs.declared.file.FileFault.{FileFault}
use Rattle.ckrt_cli_files.specs.declared.file.FileFault.TheVariants as fault
use Rattle.ckrt_cli_files.specs.declared.file.JobFile.TheVariants as file

-- THE FILE

-- why a core wasn't written into its file: a call failed, or the file has another length
abbrev pub IsWriteFault : {D : Type 0} → Ghosts D → (core : List ℕ) → (start end : D) → FileFault
    → Type 0
IsWriteFault d core start end fault.Unwritten = HasFailed (d.failures start) (d.failures end)
IsWriteFault d core start end fault.Other = d.size start ≢ length core
IsWriteFault d core start end _ = ⊥

-- from start to end the file got the bytes of a core, and no others, durably, if it was honest to that end
pub record WritesCore {D : Type 0} (d : Ghosts D) (core : List ℕ) (start end : D)
    (answer : Result (Unit {0}) FileFault) : Type 0 where
  pub written : OnOk answer (d.is_honest end → d.content end ≡ core)
  pub durable : OnOk answer (d.is_honest end → (i : ℕ) → ¬ d.pending end i)
  pub fault : IfErr answer (IsWriteFault d core start end)

-- ITS NAME

-- what became of a core in the making where its writing answered so: only one that is whole gets a name, and one that isn't is given up
abbrev pub EndsCore : {D : Type 0} → (path : List ℕ) → D → (asked new : Openings D)
    → Result (Unit {0}) FileFault → Result (Unit {0}) JobFault → Type 0
EndsCore path core asked new (Ok done) result =
    ((result ≡ Ok tt) × (new ≡ with_closed_output (with_named asked (opened path) core) core))
    ⊎ Lacks file.Core path (λ x. with_abandoned (with_named asked x core) core) new result
EndsCore path core asked new (Err why) result =
    (result ≡ Err (job.File file.Core why)) × (new ≡ with_abandoned asked core)

-- a core in the making was written, and got its name where that could be
pub record WritesInto {D : Type 0} (d : Ghosts D) (core path : List ℕ) (start : D)
    (asked new : Openings D) (result : Result (Unit {0}) JobFault) : Type 0 where
  pub end : D
  pub answer : Result (Unit {0}) FileFault
  pub writes : WritesCore d core start end answer
  pub ends : EndsCore path end asked new answer result

module _ {D : Type 0} (d : Ghosts D) (Fills : ℕ → D → Type 0) (core path : List ℕ) (old new : Openings D) (result : Result (Unit {0}) JobFault) where
  -- a file of its length was made for its path, and written
  pub record MakesIt : Type 0 where
    pub start : D
    pub is_opened : Fills (length core) start
    pub writes : WritesInto d core path start (with_making old (opened path)) new result

  -- or there was no memory for it, and no file was asked for; or no file can be made for its path
  abbrev pub MakesCore : Type 0
  MakesCore = ((result ≡ Err job.OutOfMemory) × (new ≡ old)) ⊎ Lacks file.Core path (with_making old) new result ⊎ MakesIt

-- THE DISK

-- where a program was found its core was made; else no file was asked for
abbrev pub CoresFound : {D : Type 0} → Ghosts D → (ℕ → D → Type 0) → (path : List ℕ)
    → (old new : Openings D) → Result Progress InspectFault → Result (Unit {0}) JobFault → Type 0
CoresFound d Fills path old new (Ok found) result =
    MakesCore d Fills (core_of (recovered_of found).state) path old new result
CoresFound d Fills path old new (Err f) result = (result ≡ Err (job.Inspect f)) × (new ≡ old)

-- From disk to end the disk was only read. What was found on it is what it recovers to, or recovered to after that many events, if it was honest to
-- that end, or the fault is what it says.
pub record Cores {D : Type 0} (d : Ghosts D) (Fills : ℕ → D → Type 0) (c : CoreMaking)
    (disk end : D) (old new : Openings D) (result : Result (Unit {0}) JobFault) : Type 0 where
  pub found : Result Progress InspectFault
  pub read : IsOnlyRead d disk end (is_device found)
  pub tells : d.is_honest end → AgreesAt c.at (d.content disk) found
  pub makes : CoresFound d Fills c.file old new found result

-- a core was made of a disk that was opened to be looked at, and that was closed as it was then
pub record CoresOpened {D : Type 0} (d : Ghosts D) (Opens : D → Type 0) (Fills : ℕ → D → Type 0)
    (c : CoreMaking) (asked new : Openings D) (result : Result (Unit {0}) JobFault)
    : Type 0 where
  pub start : D
  pub is_opened : Opens start
  pub end : D
  pub made : Openings D
  pub cores : Cores d Fills c start end asked made result
  pub closes : new ≡ with_closed made end

-- THE HISTORY

-- how many of the recorded events lead to the moment behind that many, or behind the last one; none where it wasn't recorded
abbrev pub IsMomentIn : (at : Option ℕ) → Recorded → Option ℕ → Type 0
IsMomentIn None r moment = moment ≡ Some (length r.events)
IsMomentIn (Some k) r (Some n) = (r.first + n ≡ k) × (n ≤ length r.events)
IsMomentIn (Some k) r None = (k < r.first) ⊎ (r.first + length r.events < k)

-- each event before that is accepted at its turn, and the machine is in the state that they lead to; or why there is no such state
abbrev pub IsProgramBehind : List Event → State → Result Machine JobFault → Type 0
IsProgramBehind es s (Ok m) = AllAccepted es s × (m.state ≡ (fold es s).state)
IsProgramBehind es s (Err why) =
    (why ≡ job.Inspect inspect.Damaged) × (AllAccepted es s → ⊥)

abbrev pub IsProgramIn : Recorded → Result Machine JobFault → (moment : Option ℕ) → Type 0
IsProgramIn r found None = found ≡ Err job.Unrecorded
IsProgramIn r found (Some n) = IsProgramBehind (take n r.events) r.start found

-- the program at that moment
pub record IsProgramAt (at : Option ℕ) (r : Recorded) (found : Result Machine JobFault)
    : Type 0 where
  pub moment : Option ℕ
  pub is : IsMomentIn at r moment
  pub program : IsProgramIn r found moment

-- where there is one its core was made; else no file was asked for
abbrev pub CoresProgram : {D : Type 0} → Ghosts D → (ℕ → D → Type 0) → (path : List ℕ)
    → (old new : Openings D) → Result Machine JobFault → Result (Unit {0}) JobFault → Type 0
CoresProgram d Fills path old new (Ok m) result =
    MakesCore d Fills (core_of m.state) path old new result
CoresProgram d Fills path old new (Err why) result = (result ≡ Err why) × (new ≡ old)

abbrev pub CoresRecorded : {D : Type 0} → Ghosts D → (ℕ → D → Type 0) → CoreMaking → Recorded
    → (old new : Openings D) → Result (Unit {0}) JobFault → Type 0
CoresRecorded d Fills c r old new result =
    (found : Result Machine JobFault) × IsProgramAt c.at r found
    × CoresProgram d Fills c.file old new found result

-- of what was read of it, or nothing was
abbrev pub CoresRead : {D : Type 0} → Ghosts D → (ℕ → D → Type 0) → CoreMaking
    → (old new : Openings D) → Result Recording HistoryFault → Result (Unit {0}) JobFault → Type 0
CoresRead d Fills c old new (Ok r) result = CoresRecorded d Fills c (recorded_of r) old new result
CoresRead d Fills c old new (Err why) result = (result ≡ Err (job.History why)) × (new ≡ old)

-- the stretch of a history that leads to the moment of a core: none of its events is told
abbrev pub moment_stretch : Option ℕ → Stretch
moment_stretch at = record { from = None; to = at; last = Some 0 }

-- A core was made of a history that was opened, that was only read, and closed as it was then, as was the snapshot of which it was read on, where
-- one was opened. What was read is what it has recorded, from the snapshot on where that was taken, if it was honest to that end.
pub record CoresHistory {D : Type 0} (d : Ghosts D) (Opens : D → Type 0) (Fills : ℕ → D → Type 0)
    (c : CoreMaking) (asked new : Openings D) (result : Result (Unit {0}) JobFault)
    : Type 0 where
  pub start : D
  pub is_opened : Opens start
  pub end : D
  pub near : NearRead D
  pub openings : Openings D
  pub reads : ReadsNear d (moment_stretch c.at) start end asked openings near
  pub made : Openings D
  pub cores : CoresRead d Fills c openings made near.answer result
  pub closes : new ≡ with_closed (with_snapshot_closed made near.file) end

-- EITHER

-- what was opened is a history, where the words say so, and else a disk
abbrev pub CoresAt : (is_history : Bool) → {D : Type 0} → Ghosts D → (D → Type 0)
    → (ℕ → D → Type 0) → CoreMaking → (asked new : Openings D) → Result (Unit {0}) JobFault
    → Type 0
CoresAt true d Opens Fills c asked new result = CoresHistory d Opens Fills c asked new result
CoresAt false d Opens Fills c asked new result = CoresOpened d Opens Fills c asked new result

-- a core was made of the disk or the history of this path, or that can't be opened
abbrev pub CoresPath : {D : Type 0} → Ghosts D → (D → Type 0) → (ℕ → D → Type 0) → CoreMaking
    → (old new : Openings D) → Result (Unit {0}) JobFault → Type 0
CoresPath d Opens Fills c old new result =
    Lacks file.Disk c.disk (with_disk old) new result
    ⊎ CoresAt c.history d Opens Fills c (with_disk old (opened c.disk)) new result
