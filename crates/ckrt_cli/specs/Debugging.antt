-- A session with a debugger over what a disk or a history has recorded. That is closed before the session begins.
use Rattle.std.specs.Prelude.{◌≡◌, ◌⊎◌, ◌++◌, ℕ, Bool, true, false, List, length, Option, Some, None, is_some, Result, Ok, Err}
use Rattle.ckrt_disk.specs.Frame.{IsOnlyRead}
use Rattle.ckrt_disk.specs.declared.disk.Disk.{Ghosts}
use Rattle.ckrt_machine.specs.Events.{AllAccepted}
use Rattle.ckrt_stored.specs.Reads.{IsReadAs, is_device}
use Rattle.ckrt_stored.specs.Recovery.{Recovers}
use Rattle.ckrt_stored.specs.declared.fault.RecoverFault.{RecoverFault}
use Rattle.ckrt_stored.specs.declared.fault.RecoverFault.TheVariants as recover
use Rattle.ckrt_inspect.specs.declared.fault.InspectFault.TheVariants as look
use Rattle.ckrt_look_recording.specs.Reading.{HasParts, LeadsOlder, RecordsParts, newer_of, older_of, whole_by}
use Rattle.ckrt_look_recording.specs.Recording.{HasRecording, Recorded, recorded_of}
use Rattle.ckrt_look_recording.specs.declared.recording.Recording.{Recording}
use Rattle.ckrt_history.specs.declared.fault.HistoryFault.{HistoryFault}
use Rattle.ckrt_look_recording.specs.declared.parts.Parts.{Parts}
use Rattle.ckrt_look_calls.specs.declared.stretch.Stretch.{Stretch}
use Rattle.ckrt_gdb_stub.specs.Conversation.{BreaksOff, Serves}
use Rattle.ckrt_gdb_stub.specs.Session.{BeginsAt, IsOutside}
use Rattle.ckrt_gdb_playback.specs.Recorded.{IsSound, Run, run_of}
use Rattle.ckrt_gdb_stub.specs.declared.fault.DebugFault.{DebugFault}
use Rattle.ckrt_gdb_stub.specs.declared.fault.DebugFault.TheVariants as debug
use Rattle.ckrt_gdb_stub.specs.declared.stub.Stub.{Stub}
use Rattle.ckrt_main.specs.declared.fault.ServeFault.TheVariants as serve
use Rattle.ckrt_cli_words.specs.Jobs.{Debugging}
use Rattle.ckrt_cli_disk.specs.Near.{ReadsNear, with_snapshot_closed}
use Rattle.ckrt_cli_disk.specs.declared.near.NearRead.{NearRead}
use Rattle.ckrt_cli_files.specs.Openings.{Openings, opened, with_closed, with_disk}
use Rattle.ckrt_cli_files.specs.declared.file.JobFile.TheVariants as file
use Rattle.ckrt_cli_reports.specs.Outside.{Lacks, Outside}
use Rattle.ckrt_cli_reports.specs.declared.fault.JobFault.{JobFault}
use Rattle.ckrt_cli_reports.specs.declared.fault.JobFault.TheVariants as job

-- THE READING

-- what the job has of it
abbrev pub parts_or_fault : Result Parts RecoverFault → Result Parts JobFault
parts_or_fault (Ok parts) = Ok parts
parts_or_fault (Err f) = Err (job.Recover f)

-- a session that is to begin where so many events are done has all in one part: where the older journal leads is known then
abbrev pub IsRead : Option ℕ → Result Parts RecoverFault → Type 0
IsRead (Some k) (Ok parts) = older_of parts ≡ None
IsRead _ _ = Unit {0}

-- A disk that was opened to be looked at was only read, and closed as it was then. What was read is what it has recorded, as far as that is known
-- before its events are made, if it was honest to that end.
pub record ReadsOpened {D : Type 0} (d : Ghosts D) (at : Option ℕ) (Opens : D → Type 0)
    (asked new : Openings D) (result : Result Parts JobFault) : Type 0 where
  pub start : D
  pub is_opened : Opens start
  pub end : D
  pub answer : Result Parts RecoverFault
  pub gives : result ≡ parts_or_fault answer
  pub read : IsOnlyRead d start end (is_device answer)
  pub records : IsReadAs d start end (λ parts. parts) answer RecordsParts
  pub is_read : IsRead at answer
  pub closes : new ≡ with_closed asked end

-- a history is read as one part
abbrev pub part_or_fault : Result Recording HistoryFault → Result Parts JobFault
part_or_fault (Ok r) = Ok (record { newer = r; older = None })
part_or_fault (Err f) = Err (job.History f)

-- the stretch of a history that a session goes over
abbrev pub session_stretch : Option ℕ → Stretch
session_stretch at = record { from = at; to = None; last = None }

-- A history that was opened was only read, and closed as it was then, as was the snapshot of which it was read on, where one was opened. What
-- was read is what it has recorded, from the snapshot on where that was taken, if it was honest to that end.
pub record ReadsHistory {D : Type 0} (d : Ghosts D) (at : Option ℕ) (Opens : D → Type 0)
    (asked new : Openings D) (result : Result Parts JobFault) : Type 0 where
  pub start : D
  pub is_opened : Opens start
  pub end : D
  pub near : NearRead D
  pub openings : Openings D
  pub reads : ReadsNear d (session_stretch at) start end asked openings near
  pub gives : result ≡ part_or_fault near.answer
  pub closes : new ≡ with_closed (with_snapshot_closed openings near.file) end

-- what was opened is a history, where the words say so, and else a disk
abbrev pub ReadsAt : (is_history : Bool) → {D : Type 0} → Ghosts D → (at : Option ℕ) → (D → Type 0)
    → (asked new : Openings D) → Result Parts JobFault → Type 0
ReadsAt true d at Opens asked new result = ReadsHistory d at Opens asked new result
ReadsAt false d at Opens asked new result = ReadsOpened d at Opens asked new result

-- what the disk or the history of this path has recorded was read, or that can't be opened
abbrev pub ReadsPath : {D : Type 0} → Ghosts D → (D → Type 0) → Debugging
    → (old new : Openings D) → Result Parts JobFault → Type 0
ReadsPath d Opens j old new result =
    Lacks file.Disk j.disk (with_disk old) new result
    ⊎ ReadsAt j.history d j.at Opens (with_disk old (opened j.disk)) new result

-- THE SESSION

-- what has been written to the debugger, and what is left to read of it, where these are known
pub record Line : Type 0 where
  pub written : Option (List ℕ)
  pub unread : Option (List ℕ)

abbrev pub line : (written unread : Option (List ℕ)) → Line
line written unread = record { written = written; unread = unread }

abbrev pub line_of : {D : Type 0} → Outside D → Line
line_of o = line o.written o.unread

-- what is recorded if the older part leads on: it comes through the last checkpoint
abbrev pub run_through : (newer : Recorded) → (older : Option Recorded) → Run
run_through newer None = record { start = newer.start; events = newer.events; stage = None }
run_through newer (Some older) =
    record {
      start = older.start;
      events = older.events ++ newer.events;
      stage = Some (record { events = length older.events; state = newer.start });
    }

abbrev pub run_in : Parts → Run
run_in p = run_through (newer_of p) (older_of p)

-- how many events were done before the first of it
abbrev pub first_in : Parts → ℕ
first_in p = (whole_by (newer_of p) (older_of p)).first

-- what the job answers for a fault of a session
abbrev pub fault_of : (has_older : Bool) → DebugFault → JobFault
fault_of has_older debug.Read = job.Serve serve.Read
fault_of has_older debug.Write = job.Serve serve.Write
fault_of false debug.Refused = job.Recover recover.Damaged
fault_of true debug.Refused = job.OlderDiffers
fault_of has_older debug.Range = job.Inspect look.Range
fault_of has_older debug.OutOfMemory = job.OutOfMemory

abbrev pub answer_of : (has_older : Bool) → Result (Unit {0}) DebugFault
    → Result (Unit {0}) JobFault
answer_of has_older (Ok done) = Ok done
answer_of has_older (Err f) = Err (fault_of has_older f)

-- Why a session doesn't begin: there is no such position, the run isn't sound, or memory was refused. One that begins with the first event
-- begins always, but for memory.
abbrev pub IsBeginFault : Option ℕ → Parts → DebugFault → Type 0
IsBeginFault at p debug.OutOfMemory = Unit {0}
IsBeginFault at p debug.Range = IsOutside at (first_in p) (run_of (run_in p))
IsBeginFault (Some k) p debug.Refused = IsSound (run_in p) → ⊥
IsBeginFault None p debug.Refused = ⊥
IsBeginFault at p debug.Read = ⊥
IsBeginFault at p debug.Write = ⊥

-- it doesn't begin, and nothing was read or written
pub record RefusesSession (at : Option ℕ) (p : Parts) (old new : Line)
    (result : Result (Unit {0}) JobFault) : Type 0 where
  pub fault : DebugFault
  pub is : result ≡ Err (fault_of (is_some p.older) fault)
  pub why : IsBeginFault at p fault
  pub same : new ≡ old

-- what was read got what was written, or a beginning of that, by the fault
abbrev pub Talks : Stub → (old new : Line) → Result (Unit {0}) DebugFault → Type 0
Talks stub old new (Ok done) = Serves stub old.unread new.unread old.written new.written
Talks stub old new (Err f) = BreaksOff f stub old.unread new.unread old.written new.written

-- a session was served
abbrev pub ServesStub : Stub → (has_older : Bool) → (old new : Line)
    → Result (Unit {0}) JobFault → Type 0
ServesStub stub has_older old new result =
    (answer : Result (Unit {0}) DebugFault) × (result ≡ answer_of has_older answer)
    × Talks stub old new answer

-- it begins where the words ask, and was served
pub record ServesSession (at : Option ℕ) (p : Parts) (old new : Line)
    (result : Result (Unit {0}) JobFault) : Type 0 where
  pub stub : Stub
  pub there : IsOutside at (first_in p) (run_of (run_in p)) → ⊥
  pub begins : BeginsAt at (first_in p) (run_in p) stub
  pub serves : ServesStub stub (is_some p.older) old new result

abbrev pub DebugsParts : Option ℕ → Parts → (old new : Line) → Result (Unit {0}) JobFault → Type 0
DebugsParts at p old new result =
    RefusesSession at p old new result ⊎ ServesSession at p old new result

-- with what was read
abbrev pub DebugsRead : Option ℕ → Result Parts JobFault → (old new : Line)
    → Result (Unit {0}) JobFault → Type 0
DebugsRead at (Ok parts) old new result = DebugsParts at parts old new result
DebugsRead at (Err f) old new result = (result ≡ Err f) × (new ≡ old)

-- THE JOB

-- what the disk or the history of the job's path has recorded was read, and then served
pub record DebugsPath {D : Type 0} (d : Ghosts D) (Opens : D → Type 0) (j : Debugging)
    (old new : Outside D) (result : Result (Unit {0}) JobFault) : Type 0 where
  pub read : Result Parts JobFault
  pub reads : ReadsPath d Opens j old.openings new.openings read
  pub debugs : DebugsRead j.at read (line_of old) (line_of new) result

-- LAWS, of the parts that an image has

-- where their run is sound, it is what the image has recorded
abbrev pub RecordsSound : Type 0
RecordsSound = (image : List ℕ) (newer : Recorded) (older : Option Recorded)
    → HasParts image newer older → IsSound (run_through newer older)
    → HasRecording image (whole_by newer older)

-- it is sound where the older leads on and each event of the newer is accepted
abbrev pub LeadsSound : Type 0
LeadsSound = (newer : Recorded) (older : Option Recorded)
    → LeadsOlder newer older → AllAccepted newer.events newer.start
    → IsSound (run_through newer older)

-- of one part alone: where it isn't sound, the image recovers to Damaged
abbrev pub RefusesDamaged : Type 0
RefusesDamaged = (image : List ℕ) (newer : Recorded) → HasParts image newer None
    → (IsSound (run_through newer None) → ⊥) → Recovers image (Err recover.Damaged)

-- of what an image has recorded no event is refused
abbrev pub RefusesNone : Type 0
RefusesNone = (image : List ℕ) (r : Recorded) → HasRecording image r → IsSound (run_through r None)
