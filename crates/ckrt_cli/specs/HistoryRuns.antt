-- Runs of the program over a disk, an output and the file of a history, as runs of the law of a history beside many runs: each is on what the run
-- before it, or a stop of that, left of all three.
use Rattle.std.proofs.Common.{inl, inr, ◌∙◌, ap, refl, sym, subst}
use Rattle.std.specs.Prelude.{◌≡◌, ◌⊎◌, ◌<◌, ℕ, Bool, true, false, List, [], ◌∷◌, ◌++◌, length, IfSome, IsOk, Option, Some, None, option_map, Result, Ok, Err, is_err}
use Rattle.ckrt_disk.specs.Frame.{IsOnlyRead, MayBeLeft}
use Rattle.ckrt_disk.specs.declared.disk.DeviceFault.{DeviceFault}
use Rattle.ckrt_disk.specs.declared.disk.Disk.{Ghosts}
use Rattle.ckrt_drive.specs.Drives.{StopLeaves}
use Rattle.ckrt_drive.specs.Stages.{GoesBySteps, Stage, stage}
use Rattle.ckrt_drive.specs.Together.{IsLeftSince, Past, past}
use Rattle.ckrt_drive.specs.declared.options.Options.{Options}
use Rattle.ckrt_events.specs.declared.event.Event.{Event}
use Rattle.ckrt_look_recording.specs.Recording.{Recorded}
use Rattle.ckrt_recovery.specs.Recovered.{IsRecovered}
use Rattle.ckrt_recovery.specs.Represents.{Represents, acknowledged_of}
use Rattle.ckrt_schedule.specs.declared.next.ScheduleEnd.{ScheduleEnd}
use Rattle.ckrt_stored.specs.Programs.{Program, RecoversToStart}
use Rattle.ckrt_history.specs.History.{HasHistory}
use Rattle.ckrt_history.specs.Keeping.{KeepingStage, keeping_stage, stages_with}
use Rattle.ckrt_history.specs.Many.{AllRun, AllStandBeside, HasJust, IsKeepingRun, IsReadyingRun, StandBeside, StopLeavesBeside, StopsOpening, Three}
use Rattle.ckrt_history.specs.Opening.{file_after}
use Rattle.ckrt_history.specs.declared.keeping_fault.KeepingFault.{KeepingFault}
use Rattle.ckrt_history.specs.declared.kept.KeptHistory.{KeptHistory}
use Rattle.ckrt_history.specs.declared.kept.Unkept.{Unkept}
use Rattle.ckrt_cli_words.specs.Jobs.{Driving, drive, request_of_words}
use Rattle.ckrt_cli_files.specs.Openings.{Openings}
use Rattle.ckrt_cli_files.specs.Sources.{Gives}
use Rattle.ckrt_cli_files.specs.declared.output.OpenedOutput.{OpenedOutput}
use Rattle.ckrt_cli_reports.specs.Outside.{Outside}
use Rattle.ckrt_cli_reports.specs.Ranges.{is_in_range}
use Rattle.ckrt_cli_reports.specs.declared.driven.Driven.{Driven}
use Rattle.ckrt_cli_reports.specs.declared.fault.JobFault.{JobFault}
use Rattle.ckrt_cli_disk.specs.Driving.{DrivesBehindNote, DrivesFound, DrivesInRange, DrivesLooked, DrivesPath, DrivesSupplied, GetsHistory, HistoryHolds, IsAsked, KeepsSteps, Means, setting_of}
use Rattle.ckrt_cli_disk.specs.Equipping.{Equips, OpensKept}
use Rattle.ckrt_cli_disk.specs.Feeding.{Supplies}
use Rattle.ckrt_cli_disk.specs.Noting.{Notes, asked_schedule}
use Rattle.ckrt_cli_disk.specs.declared.equipping.Equipped.{Equipped}
use Rattle.ckrt_cli_disk.specs.declared.feeding.Supplied.{Supplied}
use Rattle.ckrt_cli.specs.Coming.{Came, Fed, Sized, noted}
use Rattle.ckrt_cli.specs.Commands.{Paths, Run, asked_or, drive_in}
use Rattle.ckrt_cli.specs.Performing.{Reach, RunsRequest, RunsWords, Said, means_in}
use Rattle.ckrt_cli.specs.Promise.{Drove, HasZerosBehind, as_drive}
use Rattle.ckrt_cli.specs.Runs.{ProgramRun, way_of_run}

-- a disk, an output and the file of a history
abbrev pub three : {D O K : Type 0} → D → O → K → Three D O K
three disk output file = record { disk = disk; output = output; file = file }

-- A DRIVE WITH ITS HISTORY

-- the history that a drive kept in these steps, and its file in the end
pub record WithHistory {D O : Type 0} {d : Ghosts D} {o : Ghosts O} {options : Options}
    {IsRead : Type 0} {file : Option (List ℕ)} {x y : Stage d o}
    (steps : GoesBySteps options IsRead file x y) (history : Option (KeptHistory D d))
    (told : Result (Option ScheduleEnd) KeepingFault) : Type 0 where
  pub it : KeptHistory D d
  pub is : history ≡ Some it
  pub end : D
  pub keeps : KeepsSteps steps it end told

abbrev pub with_history : {D O : Type 0} {d : Ghosts D} {o : Ghosts O} {options : Options}
    {IsRead : Type 0} {file : Option (List ℕ)} {x y : Stage d o}
    → (steps : GoesBySteps options IsRead file x y) → (history : Option (KeptHistory D d))
    → (kept : Option D) → (told : Result (Option ScheduleEnd) KeepingFault)
    → GetsHistory steps history kept told → Option (WithHistory steps history told)
with_history steps None kept told gets = None
with_history steps (Some it) None told gets = absurd gets
with_history steps (Some it) (Some end) told gets =
    Some (record { it = it; is = refl; end = end; keeps = gets })

module _ {D O : Type 0} {d : Ghosts D} {o : Ghosts O} (r : ProgramRun d o) where
  -- that of a run
  abbrev pub History : Type 0
  History = WithHistory r.drives.by_steps (way_of_run r).history r.drives.told

  abbrev pub history_of : Option History
  history_of =
      with_history r.drives.by_steps (way_of_run r).history (way_of_run r).kept r.drives.told
      r.drives.gets

  -- where the run began, and where it stood in the end
  abbrev pub first_of : History → KeepingStage d o d
  first_of h =
      keeping_stage d (stage o (way_of_run r).options.events (way_of_run r).taken r.before r.output)
      h.it.file h.it.place

  abbrev pub last_of : History → KeepingStage d o d
  last_of h =
      keeping_stage d (stage o r.drives.left r.drives.taken r.after r.end) h.end h.keeps.place

  -- and where behind each step
  abbrev pub stages_of : History → List (KeepingStage d o d)
  stages_of h = stages_with h.keeps.goes.stages (last_of h) r.drives.told

-- A run of what its disk recovers to, whose history was opened so, is a run of the law that keeps it, wherever it was stopped.
abbrev pub RunsKeepHistories : {D O : Type 0} → Ghosts D → Ghosts O → Type 0
RunsKeepHistories {D = D} {O = O} d o =
    (r : ProgramRun d o) (h : History r) (noted file : D) (bytes : ℕ)
    → OpensKept d bytes noted r.start file (Ok h.it) → IsRecovered d r.start r.before
    → d.is_honest r.after.disk → o.is_honest r.end → d.is_honest h.end → (way_of_run r).IsRead
    → (at : Stage d o) (left : Three D O D)
    → StopLeavesBeside (stages_of r h) (first_of r h) at left
    → IsKeepingRun d o d (three noted r.output file) left

-- a device has all bytes that are pending
abbrev pub HasPending : {D : Type 0} → Ghosts D → D → Type 0
HasPending d disk = (i : ℕ) → d.pending disk i → i < length (d.content disk)

-- it keeps the disk model, too
pub record IsSound {D : Type 0} (d : Ghosts D) (disk : D) : Type 0 where
  pub honest : d.is_honest disk
  pub inside : HasPending d disk

-- Behind such a run whose history didn't fail that has, durably, just the events that are acknowledged.
abbrev pub RunsKeepTheAcknowledged : {D O : Type 0} → Ghosts D → Ghosts O → Type 0
RunsKeepTheAcknowledged {D = D} d o =
    (before : Past) (r : ProgramRun d o) (h : History r) (noted file : D) (bytes : ℕ)
    → OpensKept d bytes noted r.start file (Ok h.it) → IsRecovered d r.start r.before
    → IsSound d r.after.disk → IsSound o r.end → IsSound d h.end → (way_of_run r).IsRead
    → HistoryHolds r.drives.told → StandBeside d o d before (three noted r.output file)
    → (all : List Event) × Represents before.program all r.after
    × HasJust before.program (acknowledged_of all r.after) (last_of r h)

-- AN OPENING

-- a file was opened for the history of a disk, and the disk and it are so behind that
pub record Opening {D : Type 0} (d : Ghosts D) (disk : D) : Type 0 where
  pub file : OpenedOutput D
  pub end : D
  pub made : Result (KeptHistory D d) (Unkept D)
  pub opens : OpensKept d file.length disk end file.output made

-- none where the words name no history, or its file couldn't be opened
abbrev pub opening_of : {D : Type 0} {d : Ghosts D} (gives : Gives D) (path : Option (List ℕ))
    (start : Supplied D) (old new : Openings D) (found : Result (Equipped D d) JobFault)
    → Equips d gives path start old new found → Option (Opening d start.disk)
opening_of gives None start old new found equips = None
opening_of gives (Some path) start old new found (inl lacks) = None
opening_of gives (Some path) start old new found (inr opens) = Some (record {
  file = opens.output;
  end = opens.equips.disk;
  made = opens.equips.made;
  opens = opens.equips.opens;
})

-- a job came to the opening of its history, of a disk that was ready for its drive
pub record Opens {D : Type 0} (d : Ghosts D) (gives : Gives D) (j : Driving) : Type 0 where
  pub fed : Fed d gives j
  pub opening : Opening d fed.disk

-- where a job of these words has come to that, it, by what is said of the job
module _ {D W : Type 0} {d : Ghosts D} (means : Means d W) (j : Driving)
    (result : Result Driven JobFault) where
  abbrev pub ComesToOpen : Type 0
  ComesToOpen = Option (Opens d means.sources j)

  abbrev pub opens_noted : (sized : Sized d j) → (before asked new : Openings D)
      → (it : Supplied D)
      → Supplies d means.sources j.input j.input_from sized.looked before asked (Ok it)
      → (disk : D) → (answer : Result (Unit {0}) DeviceFault)
      → Notes d (asked_schedule j) it.disk disk answer
      → DrivesBehindNote
      (setting_of {d = d} means.stream means.Lent means.sources j sized.options)
      (record { disk = disk; intake = it.intake }) asked new result answer
      → ComesToOpen
  opens_noted sized before asked new it supplies disk (Err failed) notes ends = None
  opens_noted sized before asked new it supplies disk (Ok done) notes ends =
      let fed : Fed d means.sources j = record {
        sized = sized;
        before = before;
        asked = asked;
        it = it;
        supplies = supplies;
        disk = disk;
        notes = notes;
      } in
      option_map (λ opening. record { fed = fed; opening = opening })
      (opening_of means.sources j.history (noted fed) asked ends.asked ends.found ends.equips)

  abbrev pub opens_sized : (sized : Sized d j) → (before asked new : Openings D)
      → (got : Result (Supplied D) JobFault)
      → Supplies d means.sources j.input j.input_from sized.looked before asked got
      → DrivesSupplied
      (setting_of {d = d} means.stream means.Lent means.sources j sized.options) asked new result
      got
      → ComesToOpen
  opens_sized sized before asked new (Err fault) supplies ends = None
  opens_sized sized before asked new (Ok it) supplies ends =
      opens_noted sized before asked new it supplies ends.disk ends.answer ends.notes ends.drives

  abbrev pub opens_looked : (options : Options) → IsAsked j options → (found looked : D)
      → (old new : Openings D) → (other : Result (Option JobFault) DeviceFault)
      → IsOnlyRead d found looked (is_err other)
      → DrivesLooked (setting_of {d = d} means.stream means.Lent means.sources j options) looked
      old new result other
      → ComesToOpen
  opens_looked options asks found looked old new (Err failed) sized ends = None
  opens_looked options asks found looked old new (Ok (Some other)) sized ends = None
  opens_looked options asks found looked old new (Ok None) sized fed =
      opens_sized
      (record { options = options; asks = asks; found = found; looked = looked; sized = sized })
      old fed.asked new fed.found fed.supplies fed.drives

  abbrev pub opens_found : (old new : Openings D) → (found : Result D JobFault)
      → DrivesFound means j old new result found → ComesToOpen
  opens_found old new (Err fault) ends = None
  opens_found old new (Ok found) it =
      opens_looked it.options it.asked found it.drives.disk old new it.drives.found it.drives.read
      it.drives.drives

  abbrev pub opens_in_range : (old new : Openings D) → (b : Bool)
      → DrivesInRange means j old new result b → ComesToOpen
  opens_in_range old new false ends = None
  opens_in_range old new true it = opens_found it.asked new it.found it.drives

  abbrev pub opens_by_path : (old new : Openings D) → DrivesPath means j old new result
      → ComesToOpen
  opens_by_path old new drives = opens_in_range old new (is_in_range j) drives

module _ {D W : Type 0} {d : Ghosts D} (it : Reach d W) (ws : List (List ℕ)) (j : Driving)
    (asks : request_of_words ws ≡ Some (drive j)) (old new : Outside D) (said : Said)
    (status : ℕ) where
  abbrev pub opens_by_request : RunsRequest it (drive j) old new said status
      → Option (Opens d it.others j)
  opens_by_request run =
      opens_by_path (means_in it old new j) j run.performs.0.0 old.openings new.openings
      run.performs.0.2

  abbrev pub opens_by_words : RunsWords it ws old new said status → Option (Opens d it.others j)
  opens_by_words (inr refuses) = None
  opens_by_words (inl runs) =
      opens_by_request
      (subst (λ q. RunsRequest it q old new said status)
      (ap (asked_or (drive j)) (sym runs.1 ∙ asks)) runs.2)

-- ONE RUN

-- A run of the program by words that drive this disk onto this output, with this input, if any, and that keep a history in the file of this path,
-- or none.
pub record RunBeside {S D W : Type 0} {d : Ghosts D} (reach : S → Reach d W) (f : Paths)
    (path : List ℕ) : Type 0 where
  pub run : Run reach f
  pub keeps : (run.driving.history ≡ None) ⊎ (run.driving.history ≡ Some path)
  -- the file of the history as it was when it began
  pub file : D

module _ {S D W : Type 0} {d : Ghosts D} {reach : S → Reach d W} {f : Paths} {path : List ℕ} (r : RunBeside reach f path) where
  -- the three as they were then
  abbrev pub found_by : Three D D D
  found_by = three r.run.disk r.run.output r.file

  -- the opening of its history, where it came to that
  abbrev pub opening_in : Option (Opens d (reach r.run.sources).others r.run.driving)
  opening_in =
      opens_by_words (reach r.run.sources) r.run.words r.run.driving r.run.asks r.run.old r.run.new
      r.run.said r.run.status r.run.runs

-- WHAT IS ASKED OF THE SYSTEM

-- for a disk that was made ready for its drive
pub record IsMadeReady {D : Type 0} {d : Ghosts D} {gives : Gives D} {j : Driving} (disk : D)
    (fed : Fed d gives j) : Type 0 where
  -- opening gave the disk that was there
  pub found : fed.sized.found ≡ disk
  -- a disk that was made longer for its record has zeros there
  pub longer : (looked : D) → fed.asked.lengthened ≡ looked ∷ fed.before.lengthened
      → HasZerosBehind d looked fed.it.disk
  -- and once its schedule is noted it has all bytes that are pending
  pub inside : HasPending d fed.disk

-- for the opening of a history, of these three
pub record IsOpened {D : Type 0} {d : Ghosts D} {gives : Gives D} {j : Driving} (x : Three D D D)
    (it : Opens d gives j) : Type 0 where
  pub readied : IsMadeReady x.disk it.fed
  -- opening gave the file that was there
  pub found_file : it.opening.file.output ≡ x.file
  -- disk and file kept the disk model up to its end
  pub disk_honest : d.is_honest it.opening.end
  pub file_honest : d.is_honest (file_after it.opening.made)

-- a disk that was made ready, of a job that came to its drive
abbrev pub fed_of : {D : Type 0} {d : Ghosts D} {gives : Gives D} {j : Driving} {path : List ℕ}
    → Came d gives j path → Fed d gives j
fed_of came = record {
  sized = record {
    options = came.run.options;
    asks = came.asks;
    found = came.found;
    looked = came.looked;
    sized = came.sized;
  };
  before = came.before;
  asked = came.asked;
  it = record { disk = came.supplied; intake = came.intake };
  supplies = came.supplies;
  disk = came.noted;
  notes = came.notes;
}

-- and its opening
abbrev pub opening_before : {D : Type 0} {d : Ghosts D} {gives : Gives D} {j : Driving}
    {path : List ℕ} → (came : Came d gives j path) → Option (Opening d came.noted)
opening_before {gives = gives} {j = j} came =
    opening_of gives j.history (noted (fed_of came)) came.asked came.joined
    (Ok (record { disk = came.run.start; beside = came.run.beside })) came.equips

-- for a drive, of these three
pub record IsDriven {D : Type 0} {d : Ghosts D} {gives : Gives D} {j : Driving} {path : List ℕ}
    (x : Three D D D) (it : Drove d gives j path) : Type 0 where
  pub readied : IsMadeReady x.disk (fed_of it.came)
  -- opening gave the files that were there
  pub found_output : it.came.run.output ≡ x.output
  pub found_file : IfSome (opening_before it.came) (λ o. o.file.output ≡ x.file)
  -- all kept the disk model up to the end
  pub disk_honest : d.is_honest it.came.run.after.disk
  pub output_honest : d.is_honest it.came.run.end
  pub input_honest : (way_of_run it.came.run).IsRead
  pub file_honest : IfSome (history_of it.came.run) (λ h. d.is_honest h.end)

-- of a run: for its drive, where it came to that, else for the opening of its history, where it came to that
abbrev pub IsKeptBy : {D : Type 0} {d : Ghosts D} {gives : Gives D} {j : Driving} {path : List ℕ}
    → Option (Opens d gives j) → Option (Drove d gives j path) → Three D D D → Type 0
IsKeptBy opens (Some it) x = IsDriven x it
IsKeptBy opens None x = IfSome opens (IsOpened x)

pub record IsKeptBeside {S D W : Type 0} {d : Ghosts D} {reach : S → Reach d W} {f : Paths}
    {path : List ℕ} (r : RunBeside reach f path) : Type 0 where
  -- output and file when it began
  pub output : IsSound d r.run.output
  pub file : IsSound d r.file
  pub kept : IsKeptBy (opening_in r) (drive_in r.run) (found_by r)

-- WHAT A RUN LEAVES

-- Before its drive: at a stop of the opening of its history; or behind that, where there is one, with the disk perhaps synced and read once more.
abbrev pub LeavesOpening : {D : Type 0} {d : Ghosts D} {gives : Gives D} {j : Driving}
    → Option (Opens d gives j) → (output : D) → Three D D D → Type 0
LeavesOpening None output left = ⊥
LeavesOpening {d = d} (Some x) output left =
    (StopsOpening x.fed.disk x.opening.end x.opening.file.output (file_after x.opening.made)
    x.opening.opens.order.0 left.disk left.file
    × IsLeftSince d output output left.output)
    ⊎ (IsOk x.opening.made
    × IsReadyingRun d d d (three x.opening.end output (file_after x.opening.made)) left)

-- in its drive, at the stage at which that was stopped
abbrev pub LeavesDriving : {D : Type 0} {d : Ghosts D} {gives : Gives D} {j : Driving}
    {path : List ℕ} → (x : Drove d gives j path) → Option (History x.came.run) → (file : D)
    → Three D D D → Type 0
LeavesDriving {d = d} x None file left =
    StopLeaves (as_drive x).stages (as_drive x).first x.at left.disk left.output
    × IsLeftSince d file file left.file
LeavesDriving x (Some h) file left =
    StopLeavesBeside (stages_of x.came.run h) (first_of x.came.run h) x.at left

-- What a run left of the three at one moment: in its drive; or in the opening of its history, or behind it; or before that, where its disk was made
-- ready, while output and file weren't called.
abbrev pub LeavesBy : {D : Type 0} {d : Ghosts D} {gives : Gives D} {j : Driving} {path : List ℕ}
    → Option (Opens d gives j) → Option (Drove d gives j path) → (x left : Three D D D) → Type 0
LeavesBy opens (Some it) x left = LeavesDriving it (history_of it.came.run) x.file left
LeavesBy {d = d} opens None x left =
    IsReadyingRun d d d x left ⊎ LeavesOpening opens x.output left

abbrev pub LeavesBeside : {S D W : Type 0} {d : Ghosts D} {reach : S → Reach d W} {f : Paths}
    {path : List ℕ} → RunBeside reach f path → Three D D D → Type 0
LeavesBeside r left = LeavesBy (opening_in r) (drive_in r.run) (found_by r) left

-- WHAT IS PROMISED

-- runs of the law lead from x to y, one after another
abbrev pub LeadsTo : {D O K : Type 0} → Ghosts D → Ghosts O → Ghosts K → (x y : Three D O K)
    → Type 0
LeadsTo {D = D} {O = O} {K = K} d o k x y = (between : List (Three D O K)) × AllRun d o k x (between ++ y ∷ [])

-- Whatever a run leaves, runs of the law lead there.
abbrev pub RunsAreBeside : {S D W : Type 0} {d : Ghosts D} → (S → Reach d W) → Type 0
RunsAreBeside {D = D} {d = d} reach =
    (f : Paths) (path : List ℕ) (r : RunBeside reach f path) (left : Three D D D) → IsKeptBeside r
    → LeavesBeside r left → LeadsTo d d d (found_by r) left

-- MANY

abbrev pub AllKeptBeside : {S D W : Type 0} {d : Ghosts D} {reach : S → Reach d W} {f : Paths}
    {path : List ℕ} → List (RunBeside reach f path) → Type 0
AllKeptBeside [] = Unit {0}
AllKeptBeside (r ∷ more) = IsKeptBeside r × AllKeptBeside more

-- each begins with what the one before it left of the three, and this is what the last one left
abbrev pub AllFollowBeside : {S D W : Type 0} {d : Ghosts D} {reach : S → Reach d W} {f : Paths}
    {path : List ℕ} → RunBeside reach f path → List (RunBeside reach f path) → (last : Three D D D)
    → Type 0
AllFollowBeside r [] last = LeavesBeside r last
AllFollowBeside r (s ∷ more) last = LeavesBeside r (found_by s) × AllFollowBeside s more last

-- what each but the first found, and what the last one left
abbrev pub all_left : {S D W : Type 0} {d : Ghosts D} {reach : S → Reach d W} {f : Paths}
    {path : List ℕ} → List (RunBeside reach f path) → (last : Three D D D) → List (Three D D D)
all_left [] last = last ∷ []
all_left (s ∷ more) last = found_by s ∷ all_left more last

-- All that is asked: of runs of a program that keep a history or none, one after another, up to what the last one left.
pub record GoOnBeside {S D W : Type 0} {d : Ghosts D} {reach : S → Reach d W} {f : Paths}
    {path : List ℕ} (p : Program) (r : RunBeside reach f path)
    (more : List (RunBeside reach f path)) (last : Three D D D) : Type 0 where
  -- the first finds a disk that was formatted with the program, an output of which nothing is pending, and a file that is no history
  pub formatted : (image : List ℕ) → MayBeLeft d r.run.disk image → RecoversToStart p image
  pub durable : (i : ℕ) → ¬ d.pending r.run.output i
  pub none : (image : List ℕ) (had : Recorded) → MayBeLeft d r.file image → HasHistory image had → ⊥
  -- the system keeps the disk model for the files of each
  pub kept : AllKeptBeside (r ∷ more)
  -- opening a path gives what was left of its file
  pub follow : AllFollowBeside r more last

-- Whatever each run leaves of the three stands: disk and output hold together, and the history has just a beginning of the events that are
-- acknowledged.
abbrev pub RunsStandOn : {S D W : Type 0} {d : Ghosts D} → (S → Reach d W) → Type 0
RunsStandOn {D = D} {d = d} reach =
    (f : Paths) (path : List ℕ) (p : Program) (r : RunBeside reach f path)
    (more : List (RunBeside reach f path)) (last : Three D D D) → GoOnBeside p r more last
    → AllStandBeside d d d (past p (d.content r.run.output) [] []) (all_left more last)

-- and of runs that can all reach the same
abbrev pub CommandsAreBeside : {D W : Type 0} {d : Ghosts D} → Reach d W → Type 0
CommandsAreBeside it = RunsAreBeside {S = Unit {0}} (λ _. it)

abbrev pub CommandsStandOn : {D W : Type 0} {d : Ghosts D} → Reach d W → Type 0
CommandsStandOn it = RunsStandOn {S = Unit {0}} (λ _. it)
