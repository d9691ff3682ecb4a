-- The drive of a disk, with its input from a file, and its output in a disk of its own or on the standard output: from the words' options to
-- the ending.
use Rattle.std.specs.Prelude.{◌≡◌, ◌⊎◌, ◌≤◌, ◌-◌, ◌^◌, ℕ, Bool, true, false, List, Option, Some, None, Result, Ok, Err, IfErr, IfOk, IfSome, is_err, is_some, map}
use Rattle.ckrt_stored.specs.declared.schedule.ScheduleNote.{ScheduleNote}
use Rattle.ckrt_disk.specs.Disk.{HasFailed}
use Rattle.ckrt_disk.specs.Frame.{IsOnlyRead}
use Rattle.ckrt_disk.specs.declared.disk.DeviceFault.{DeviceFault}
use Rattle.ckrt_disk.specs.declared.disk.Disk.{Ghosts}
use Rattle.ckrt_stored.specs.Reads.{is_device}
use Rattle.ckrt_stored.specs.Recovery.{AgreesOnFault, Recovers}
use Rattle.ckrt_stored.specs.declared.fault.RecoverFault.{RecoverFault}
use Rattle.ckrt_stored.specs.declared.fault.RecoverFault.TheVariants as recover
use Rattle.ckrt_recovery.specs.Opening.{IsSyncedAndRead}
use Rattle.ckrt_recovery.specs.Recovered.{IsRecovered}
use Rattle.ckrt_recovery.specs.declared.session.Session.{Session}
use Rattle.ckrt_machine.specs.Steps.{State}
use Rattle.ckrt_drive.specs.Runs.{Runs}
use Rattle.ckrt_drive.specs.Stages.{GoesBySteps, IsOver, Stage, stage}
use Rattle.ckrt_drive.specs.Streams.{got_to, writer_of}
use Rattle.ckrt_drive.specs.declared.fault.DriveFault.{DriveFault}
use Rattle.ckrt_drive.specs.declared.fault.DriveFault.TheVariants.{Output}
use Rattle.ckrt_drive.specs.declared.options.Options.{Options}
use Rattle.ckrt_history.specs.Keeping.{GoesByKeeping, KeepingStage, keeping_stage, stages_with}
use Rattle.ckrt_history.specs.declared.fault.HistoryFault.TheVariants as history
use Rattle.ckrt_history.specs.declared.keeping_fault.KeepingFault.{KeepingFault}
use Rattle.ckrt_history.specs.declared.keeping_fault.KeepingFault.TheVariants.{Device, Drive, Full}
use Rattle.ckrt_history.specs.declared.kept.KeptHistory.{KeptHistory}
use Rattle.ckrt_history.specs.declared.opened.OpenHistory.{OpenHistory}
use Rattle.ckrt_schedule.specs.declared.next.ScheduleEnd.{ScheduleEnd}
use Rattle.ckrt_drive.specs.declared.stream.StreamOutput.{StreamOutput}
use Rattle.ckrt_cli_words.specs.Jobs.{Driving}
use Rattle.ckrt_cli_disk.specs.Addresses.{fault_address}
use Rattle.ckrt_cli_disk.specs.Equipping.{Equips, left_of, with_left_closed}
use Rattle.ckrt_cli_disk.specs.Feeding.{Supplies, file_of, made_size}
use Rattle.ckrt_cli_reports.specs.Lengths.{fits, lengths_of}
use Rattle.ckrt_cli_disk.specs.Missing.{FindsDisk}
use Rattle.ckrt_cli_files.specs.Openings.{Openings, opened, with_both_closed, with_closed, with_closed_output, with_output}
use Rattle.ckrt_cli_reports.specs.Outside.{Lacks}
use Rattle.ckrt_cli_reports.specs.Ranges.{config_for, is_in_range}
use Rattle.ckrt_cli_disk.specs.Noting.{FitsWords, Notes, asked_schedule}
use Rattle.ckrt_cli_files.specs.Sources.{Gives}
use Rattle.ckrt_cli_reports.specs.declared.driven.Driven.{Driven}
use Rattle.ckrt_cli_reports.specs.declared.fault.JobFault.{JobFault}
use Rattle.ckrt_cli_reports.specs.declared.fault.JobFault.TheVariants as job
use Rattle.ckrt_cli_disk.specs.declared.equipping.Beside.{Beside}
use Rattle.ckrt_cli_disk.specs.declared.equipping.Equipped.{Equipped}
use Rattle.ckrt_cli_disk.specs.declared.equipping.Left.{Left}
use Rattle.ckrt_cli_disk.specs.declared.feeding.Intake.{Intake}
use Rattle.ckrt_cli_disk.specs.declared.feeding.Supplied.{Supplied}
use Rattle.ckrt_cli_files.specs.declared.file.JobFile.TheVariants as file
use Rattle.ckrt_cli_files.specs.declared.output.OpenedOutput.{OpenedOutput}
use Rattle.ckrt_cli_files.specs.declared.reason.OutputReason.{OutputReason}

-- THE OPTIONS

-- below which offset output is left out
abbrev pub offset_of : Option ℕ → ℕ
offset_of None = 0
offset_of (Some from) = from

-- the greatest number of 64 bits where no limit is given
abbrev pub limit_of : Option ℕ → ℕ
limit_of None = 2 ^ 64 - 1
limit_of (Some events) = events

-- how the drive goes that the words ask for
pub record IsAsked (j : Driving) (o : Options) : Type 0 where
  pub turn : o.turn ≡ j.turn
  pub rounds : o.rounds ≡ j.rounds
  pub events : o.events ≡ limit_of j.events
  pub seed : o.seed ≡ j.seed

-- THE SESSION

-- what a drive came to where its run answered so, and the machine is in this state
abbrev pub driven_of : State → Result (Option ScheduleEnd) KeepingFault
    → Result Driven KeepingFault
driven_of s (Ok ending) =
    Ok (record { ending = ending; status = s.tables.status; address = fault_address s })
driven_of s (Err fault) = Err fault

-- How a drive goes, and what its program is given: these bytes, if any, where they were read as they are, from those on that it had taken. And
-- the history that it keeps, if it keeps one, and the file of that as it ends.
pub record Way {D : Type 0} (d : Ghosts D) : Type 1 where
  pub options : Options
  pub IsRead : Type 0
  pub file : Option (List ℕ)
  pub taken : ℕ
  pub history : Option (KeptHistory D d)
  pub kept : Option D

-- without an input
abbrev pub unfed : {D : Type 0} {d : Ghosts D} → Options → Option (KeptHistory D d)
    → (kept : Option D) → Way d
unfed options history kept = record {
  options = options;
  IsRead = Unit {0};
  file = None;
  taken = 0;
  history = history;
  kept = kept;
}

-- with this one, which ends so: its bytes are those of its file, where that was honest to the end
abbrev pub fed_from : {D : Type 0} → (d : Ghosts D) → Way d → Intake D → (end : D) → Way d
fed_from d way it end =
    record way { IsRead = d.is_honest end; file = Some (d.content it.file); taken = it.taken }

-- with an input, where there is one; one that begins also ends
abbrev pub with_intake : {D : Type 0} → (d : Ghosts D) → Way d → Option (Intake D)
    → (end : Option D) → Way d
with_intake d way None end = way
with_intake d way (Some it) None = way
with_intake d way (Some it) (Some end) = fed_from d way it end

-- with what is beside it, of which this is left
abbrev pub way_of : {D : Type 0} → (d : Ghosts D) → Options → Beside D d → Left D → Way d
way_of d options beside left =
    with_intake d (unfed options beside.history left.history) beside.intake left.input

-- what a drive that keeps no history tells where its run answered so
abbrev pub without_history : Result (Option ScheduleEnd) DriveFault
    → Result (Option ScheduleEnd) KeepingFault
without_history (Ok ending) = Ok ending
without_history (Err fault) = Err (Drive fault)

-- A drive tells this where its own run, of so many steps at most, came to that: the same, with all the steps that there are to it, unless the history
-- failed. Then it made these steps, and came to no end.
abbrev pub TellsOf : (told : Result (Option ScheduleEnd) KeepingFault) → (steps : ℕ)
    → (ran : Result (Option ScheduleEnd) DriveFault) → Type 0
TellsOf (Ok ending) steps ran = (steps ≡ 2 ^ 64 - 1) × (ran ≡ Ok ending)
TellsOf (Err (Drive fault)) steps ran = (steps ≡ 2 ^ 64 - 1) × (ran ≡ Err fault)
TellsOf (Err Device) steps ran = (steps ≤ 2 ^ 64 - 1) × (ran ≡ Ok None)
TellsOf (Err Full) steps ran = (steps ≤ 2 ^ 64 - 1) × (ran ≡ Ok None)

-- the history didn't fail
abbrev pub HistoryHolds : Result (Option ScheduleEnd) KeepingFault → Type 0
HistoryHolds (Ok ending) = Unit {0}
HistoryHolds (Err (Drive fault)) = Unit {0}
HistoryHolds (Err Device) = ⊥
HistoryHolds (Err Full) = ⊥

-- What a history got, of which its file is this one in the end, while its drive made these steps and then told this: batch by batch what the
-- disk has, before anything else was done, behind the drive's own steps.
pub record KeepsSteps {D O : Type 0} {d : Ghosts D} {o : Ghosts O} {options : Options}
    {IsRead : Type 0} {file : Option (List ℕ)} {x y : Stage d o}
    (steps : GoesBySteps options IsRead file x y) (it : KeptHistory D d) (end : D)
    (told : Result (Option ScheduleEnd) KeepingFault) : Type 0 where
  pub place : OpenHistory
  pub goes : GoesByKeeping options (keeping_stage d x it.file it.place)
      (keeping_stage d y end place) told
  pub same : steps.stages
      ≡ map (λ (z : KeepingStage d o d). z.stage)
      (stages_with goes.stages (keeping_stage d y end place) told)

-- What a history got, if there is one. Where there is none, none fails.
abbrev pub GetsHistory : {D O : Type 0} {d : Ghosts D} {o : Ghosts O} {options : Options}
    {IsRead : Type 0} {file : Option (List ℕ)} {x y : Stage d o}
    → GoesBySteps options IsRead file x y → Option (KeptHistory D d) → (kept : Option D)
    → (told : Result (Option ScheduleEnd) KeepingFault) → Type 0
GetsHistory steps None kept told = (kept ≡ None) × HistoryHolds told
GetsHistory steps (Some it) None told = ⊥
GetsHistory steps (Some it) (Some end) told = KeepsSteps steps it end told

-- From s to t, with its output from a to b, a session was driven this way: by the plan, with all its events left, up to an end.
pub record DrivesWay {D O : Type 0} {g : Ghosts D} (o : Ghosts O) (way : Way g) (s t : Session D g)
    (a b : O) (answer : Result Driven KeepingFault) : Type 0 where
  -- what its run came to, in how many steps at most, and what was told of that: another thing only where the history failed
  pub ran : Result (Option ScheduleEnd) DriveFault
  pub steps : ℕ
  pub told : Result (Option ScheduleEnd) KeepingFault
  pub tells : TellsOf told steps ran
  -- how many events are left in the end, and how many bytes of input the program has taken
  pub left : ℕ
  pub taken : ℕ
  -- what it did, what every stop left, what was acknowledged, and what the output holds
  pub runs : Runs o way.options steps way.options.events left s t a b ran
  -- step by step
  pub by_steps : GoesBySteps way.options way.IsRead way.file
      (stage o way.options.events way.taken s a) (stage o left taken t b)
  -- and nothing is next at an end
  pub over : way.IsRead
      → IfOk ran (λ ended. IfSome ended (IsOver way.options way.file (stage o left taken t b)))
  -- what the history got
  pub gets : GetsHistory by_steps way.history way.kept told
  -- the program stands as it says
  pub gives : answer ≡ driven_of t.progress.machine.state told
  pub output : IfErr answer (λ fault.
      fault ≡ Drive Output → HasFailed (o.failures a) (o.failures b))

-- THE FILES

-- what a job answers where its drive answered so; of an output that failed it says why
abbrev pub answer_of : OutputReason → Result Driven KeepingFault → Result Driven JobFault
answer_of why (Ok driven) = Ok driven
answer_of why (Err (Drive Output)) = Err (job.OutputFailed why)
answer_of why (Err (Drive fault)) = Err (job.Drive fault)
answer_of why (Err Device) = Err (job.History history.Device)
answer_of why (Err Full) = Err job.HistoryFull

-- What a drive is set among: its stream, and how that is lent its writer; what sources may give; the file of its input, and where the words say
-- that it goes on; where its output goes, and below which offset it is left out; the history that it keeps; the schedule that it notes; and how it
-- goes.
pub record Setting {D : Type 0} (d : Ghosts D) (W : Type 0) : Type 1 where
  pub stream : Ghosts (StreamOutput W)
  pub Lent : (stream end : StreamOutput W) → Type 0
  pub sources : Gives D
  pub input : Option (List ℕ)
  pub input_from : Option ℕ
  pub output : Option (List ℕ)
  pub from : ℕ
  pub history : Option (List ℕ)
  pub schedule : ScheduleNote
  pub options : Options

abbrev pub setting_of : {D W : Type 0} {d : Ghosts D} → Ghosts (StreamOutput W)
    → ((stream end : StreamOutput W) → Type 0) → Gives D → Driving → Options → Setting d W
setting_of o Lent gives j options = record {
  stream = o;
  Lent = Lent;
  sources = gives;
  input = j.input;
  input_from = j.input_from;
  output = j.output;
  from = offset_of j.from;
  history = j.history;
  schedule = asked_schedule j;
  options = options;
}

-- A session that is ready to be driven, with what is beside it.
pub record Ready {D : Type 0} (d : Ghosts D) : Type 0 where
  pub session : Session D d
  pub beside : Beside D d

abbrev pub ready : {D : Type 0} {d : Ghosts D} → Session D d → Beside D d → Ready d
ready s beside = record { session = s; beside = beside }

-- it was driven onto an output that was opened, and all were closed as the drive left them. The openings go from asked to new.
pub record DrivesOnto {D : Type 0} {d : Ghosts D} (options : Options) (it : Ready d) (output : D)
    (asked new : Openings D) (result : Result Driven JobFault) : Type 0 where
  pub after : Session D d
  pub end : D
  -- what was beside it, as the drive left that
  pub left : Left D
  pub kept : is_some left.input ≡ is_some it.beside.intake
  pub answer : Result Driven KeepingFault
  pub drives : DrivesWay d (way_of d options it.beside left) it.session after output end answer
  -- why the output failed, if it did
  pub why : OutputReason
  pub gives : result ≡ answer_of why answer
  pub closes : new ≡ with_left_closed (with_closed_output asked end) left after.disk

-- the output that was opened can't be the disk's, by the length of its file, and all were closed as they were
pub record RefusesOutput {D : Type 0} {d : Ghosts D} (output : OpenedOutput D) (it : Ready d)
    (asked new : Openings D) (result : Result Driven JobFault) : Type 0 where
  pub unfit : fits (lengths_of output.length it.session) ≡ false
  pub is : result ≡ Err (job.OutputDiffers (lengths_of output.length it.session))
  pub closes : new
      ≡ with_left_closed (with_closed_output asked output.output) (left_of it.beside)
      it.session.disk

-- the length of its file fits the disk, and the session was driven onto it
pub record TakesOutput {D : Type 0} {d : Ghosts D} (output : OpenedOutput D) (options : Options)
    (it : Ready d) (asked new : Openings D) (result : Result Driven JobFault) : Type 0 where
  pub fit : fits (lengths_of output.length it.session) ≡ true
  pub drives : DrivesOnto options it output.output asked new result

abbrev pub DrivesOpenedOutput : {D : Type 0} {d : Ghosts D} → OpenedOutput D → Options → Ready d
    → (asked new : Openings D) → Result Driven JobFault → Type 0
DrivesOpenedOutput output options it asked new result =
    RefusesOutput output it asked new result ⊎ TakesOutput output options it asked new result

-- the output of this path was opened, and the session driven onto it where it fits
pub record OpensOutput {D : Type 0} {d : Ghosts D} (Outputs : OpenedOutput D → Type 0)
    (path : List ℕ) (options : Options) (it : Ready d) (old new : Openings D)
    (result : Result Driven JobFault) : Type 0 where
  pub output : OpenedOutput D
  pub is_opened : Outputs output
  pub drives : DrivesOpenedOutput output options it (with_output old (opened path)) new result

-- What became of a session whose output goes into the file of a path: where that can't be opened the disk and what is beside it were closed as
-- they were.
abbrev pub DrivesInto : {D : Type 0} {d : Ghosts D} → (OpenedOutput D → Type 0) → (path : List ℕ)
    → Options → Ready d → (old new : Openings D) → Result Driven JobFault → Type 0
DrivesInto Outputs path options it old new result =
    Lacks file.Output path
    (λ x. with_left_closed (with_output old x) (left_of it.beside) it.session.disk) new result
    ⊎ OpensOutput Outputs path options it old new result

-- A stream is lent the job's writer, from its beginning to its end: that holds what the writer held before, and in the end what it holds after
-- the job. What writers hold goes from a to b.
pub record IsLent {W : Type 0} (contents : W → Option (List ℕ)) (a b : Option (List ℕ))
    (stream end : StreamOutput W) : Type 0 where
  pub before : contents (writer_of stream) ≡ a
  pub behind : contents (writer_of end) ≡ b

-- the session was driven onto a stream that leaves out the bytes below an offset, and the disk and what is beside it were closed as the drive
-- left them
pub record DrivesStream {D W : Type 0} {d : Ghosts D} (set : Setting d W) (it : Ready d)
    (old new : Openings D) (result : Result Driven JobFault) : Type 0 where
  pub stream : StreamOutput W
  pub begins : got_to stream ≡ set.from
  pub after : Session D d
  pub end : StreamOutput W
  pub left : Left D
  pub kept : is_some left.input ≡ is_some it.beside.intake
  pub answer : Result Driven KeepingFault
  pub drives : DrivesWay set.stream (way_of d set.options it.beside left) it.session after
      stream end answer
  -- nothing is written but by the stream
  pub lent : set.Lent stream end
  -- why the output failed, if it did
  pub why : OutputReason
  pub gives : result ≡ answer_of why answer
  pub closes : new ≡ with_left_closed old left after.disk

-- the session was driven with its output in the file of a path, where there is one, else onto a stream
abbrev pub DrivesToward : {D W : Type 0} {d : Ghosts D} → Setting d W → Ready d
    → (old new : Openings D) → Result Driven JobFault → (output : Option (List ℕ)) → Type 0
DrivesToward set it old new result (Some path) =
    DrivesInto (set.sources.Outputs path) path set.options it old new result
DrivesToward set it old new result None = DrivesStream set it old new result

abbrev pub DrivesRecovered : {D W : Type 0} {d : Ghosts D} → Setting d W → Ready d
    → (old new : Openings D) → Result Driven JobFault → Type 0
DrivesRecovered set it old new result = DrivesToward set it old new result set.output

-- where the output goes into a file nothing is written
abbrev pub IsUnwritten : (output : Option (List ℕ)) → (a b : Option (List ℕ)) → Type 0
IsUnwritten (Some path) a b = b ≡ a
IsUnwritten None a b = Unit {0}

-- THE DISK

-- nothing was recovered, and no output was asked for; the fault is the content's, or the device failed a call, or memory was refused
pub record LacksRecovery {D : Type 0} (d : Ghosts D) (start : D) (left : Left D)
    (old new : Openings D) (result : Result Driven JobFault) : Type 0 where
  pub end : D
  pub why : RecoverFault
  pub is : result ≡ Err (job.Recover why)
  pub content : d.is_honest end → AgreesOnFault why (Recovers (d.content start))
  pub disk : IsSyncedAndRead d start end (is_device {X = Unit {0}} (Err why))
  pub closes : new ≡ with_left_closed old left end

-- the disk was recovered, and driven
pub record DrivesDisk {D W : Type 0} {d : Ghosts D} (set : Setting d W) (start : Equipped D d)
    (old new : Openings D) (result : Result Driven JobFault) : Type 0 where
  pub session : Session D d
  pub recovered : IsRecovered d start.disk session
  pub drives : DrivesRecovered set (ready session start.beside) old new result

abbrev pub DrivesOpened : {D W : Type 0} {d : Ghosts D} → Setting d W → Equipped D d
    → (old new : Openings D) → Result Driven JobFault → Type 0
DrivesOpened {d = d} set start old new result =
    LacksRecovery d start.disk (left_of start.beside) old new result
    ⊎ DrivesDisk set start old new result

-- THE HISTORY

-- it was driven with its history, where that could be had
abbrev pub DrivesEquipped : {D W : Type 0} {d : Ghosts D} → Setting d W → (old new : Openings D)
    → Result Driven JobFault → (found : Result (Equipped D d) JobFault) → Type 0
DrivesEquipped set old new result (Ok it) = DrivesOpened set it old new result
DrivesEquipped set old new result (Err fault) = (result ≡ Err fault) × (new ≡ old)

-- a disk with its input was driven, with the history of the words, where they name one
pub record DrivesJoined {D W : Type 0} {d : Ghosts D} (set : Setting d W) (start : Supplied D)
    (old new : Openings D) (result : Result Driven JobFault) : Type 0 where
  pub found : Result (Equipped D d) JobFault
  pub asked : Openings D
  pub equips : Equips d set.sources set.history start old asked found
  pub drives : DrivesEquipped set asked new result found

-- THE SCHEDULE

-- it was driven, where its schedule was noted, or was before; where that failed all were closed as they were
abbrev pub DrivesBehindNote : {D W : Type 0} {d : Ghosts D} → Setting d W → (start : Supplied D)
    → (old new : Openings D) → Result Driven JobFault
    → (answer : Result (Unit {0}) DeviceFault) → Type 0
DrivesBehindNote set start old new result (Err failed) =
    (result ≡ Err (job.Recover recover.Device))
    × (new ≡ with_both_closed old (file_of start.intake) start.disk)
DrivesBehindNote set start old new result (Ok done) = DrivesJoined set start old new result

-- the schedule of the words was noted on a disk with its input, which was then driven
pub record DrivesNoted {D W : Type 0} {d : Ghosts D} (set : Setting d W) (start : Supplied D)
    (old new : Openings D) (result : Result Driven JobFault) : Type 0 where
  pub disk : D
  pub answer : Result (Unit {0}) DeviceFault
  pub notes : Notes d set.schedule start.disk disk answer
  pub drives : DrivesBehindNote set (record { disk = disk; intake = start.intake }) old new result
      answer

-- THE INPUT

-- it was driven with its input, where that was found
abbrev pub DrivesSupplied : {D W : Type 0} {d : Ghosts D} → Setting d W → (old new : Openings D)
    → Result Driven JobFault → (found : Result (Supplied D) JobFault) → Type 0
DrivesSupplied set old new result (Ok it) = DrivesNoted set it old new result
DrivesSupplied set old new result (Err fault) = (result ≡ Err fault) × (new ≡ old)

-- a disk with the sizes of the words was driven, with the input of the words, where they name one
pub record DrivesFed {D W : Type 0} {d : Ghosts D} (set : Setting d W) (start : D)
    (old new : Openings D) (result : Result Driven JobFault) : Type 0 where
  pub found : Result (Supplied D) JobFault
  pub asked : Openings D
  pub supplies : Supplies d set.sources set.input set.input_from start old asked found
  pub drives : DrivesSupplied set asked new result found

-- WHETHER IT FITS

-- What became of a disk that was looked at: a read failed; or it has other sizes than those that are asked for, or notes another schedule; or it
-- was driven. Where it wasn't, it was closed as it was, and nothing else was asked for.
abbrev pub DrivesLooked : {D W : Type 0} {d : Ghosts D} → Setting d W → D → (old new : Openings D)
    → Result Driven JobFault → (found : Result (Option JobFault) DeviceFault) → Type 0
DrivesLooked set disk old new result (Err failed) =
    (result ≡ Err (job.Recover recover.Device)) × (new ≡ with_closed old disk)
DrivesLooked set disk old new result (Ok (Some fault)) =
    (result ≡ Err fault) × (new ≡ with_closed old disk)
DrivesLooked set disk old new result (Ok None) = DrivesFed set disk old new result

-- the disk's sizes and its schedule were read, and it was driven where they fit the words
pub record DrivesSized {D W : Type 0} {d : Ghosts D} (set : Setting d W) (j : Driving) (start : D)
    (old new : Openings D) (result : Result Driven JobFault) : Type 0 where
  pub disk : D
  pub found : Result (Option JobFault) DeviceFault
  pub read : IsOnlyRead d start disk (is_err found)
  pub exact : IfOk found (λ answer. d.is_honest disk → FitsWords j (d.content start) answer)
  pub drives : DrivesLooked set disk old new result found

-- THE JOB

-- What a drive has besides its words: its stream, and how that is lent its writer; and what sources may give.
pub record Means {D : Type 0} (d : Ghosts D) (W : Type 0) : Type 1 where
  pub stream : Ghosts (StreamOutput W)
  pub Lent : (stream end : StreamOutput W) → Type 0
  pub images : List ℕ → Option (List ℕ)
  pub Opens : D → Type 0
  pub Fills : D → Type 0
  pub sources : Gives D

-- those of these words, where sources give these bytes for the path of an image, these disks for that of a disk, and these once it is filled
abbrev pub means_of : {D W : Type 0} → (d : Ghosts D) → Ghosts (StreamOutput W)
    → ((stream end : StreamOutput W) → Type 0) → (List ℕ → Option (List ℕ))
    → (List ℕ → D → Type 0) → (List ℕ → ℕ → D → Type 0) → Gives D → Driving → Means d W
means_of d o Lent images Opens Fills gives j = record {
  stream = o;
  Lent = Lent;
  images = images;
  Opens = Opens j.disk;
  Fills = Fills j.disk (made_size j);
  sources = gives;
}

-- A drive that came by its disk drives it as the words ask; one that didn't asked for nothing more.
pub record DrivesIt {D W : Type 0} {d : Ghosts D} (means : Means d W) (j : Driving) (start : D)
    (old new : Openings D) (result : Result Driven JobFault) : Type 0 where
  pub options : Options
  pub asked : IsAsked j options
  pub drives : DrivesSized
      (setting_of {d = d} means.stream means.Lent means.sources j options) j start old new result

abbrev pub DrivesFound : {D W : Type 0} {d : Ghosts D} → Means d W → Driving
    → (old new : Openings D) → Result Driven JobFault → (found : Result D JobFault) → Type 0
DrivesFound means j old new result (Ok start) = DrivesIt means j start old new result
DrivesFound means j old new result (Err fault) = (result ≡ Err fault) × (new ≡ old)

-- the drive of the words' path: how it came by its disk, and what became of it
pub record FindsAndDrives {D W : Type 0} {d : Ghosts D} (means : Means d W) (j : Driving)
    (old new : Openings D) (result : Result Driven JobFault) : Type 0 where
  pub found : Result D JobFault
  pub asked : Openings D
  pub finds : FindsDisk d (config_for j.sizes) means.images means.Opens means.Fills j.disk j.image
      old asked found
  pub drives : DrivesFound means j asked new result found

-- Out of its ranges nothing is asked for.
abbrev pub DrivesInRange : {D W : Type 0} {d : Ghosts D} → Means d W → Driving
    → (old new : Openings D) → Result Driven JobFault → Bool → Type 0
DrivesInRange means j old new result true = FindsAndDrives means j old new result
DrivesInRange means j old new result false = (result ≡ Err job.Range) × (new ≡ old)

abbrev pub DrivesPath : {D W : Type 0} {d : Ghosts D} → Means d W → Driving → (old new : Openings D)
    → Result Driven JobFault → Type 0
DrivesPath means j old new result = DrivesInRange means j old new result (is_in_range j)
