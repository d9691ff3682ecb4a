-- What the program does for its words: the outcome of each job, by what its sources give.
use Rattle.std.specs.Prelude.{◌≡◌, ◌≢◌, ◌⊎◌, ℕ, Bool, true, false, List, [], ◌∷◌, Option, Some, None, Result, Ok, Err}
use Rattle.clap.specs.Words.{takes}
use Rattle.ckrt_disk.specs.declared.disk.Disk.{Ghosts}
use Rattle.ckrt_disk.specs.declared.file.FileDisk.{FileDisk}
use Rattle.ckrt_disk.specs.declared.positioned.PositionedFile.{Ghosts as Files}
use Rattle.ckrt_stored.specs.Layout.{size_needed}
use Rattle.ckrt_stored.specs.declared.config.Config.{Config}
use Rattle.ckrt_recovery.specs.View.{fresh}
use Rattle.ckrt_main.specs.Service.{IsStartFault, Served, ServedPart}
use Rattle.ckrt_main.specs.declared.fault.ServeFault.{ServeFault}
use Rattle.ckrt_main.specs.declared.fault.ServeFault.TheVariants as serve
use Rattle.ckrt_cli_words.specs.Commands.{ckrt_app}
use Rattle.ckrt_cli_words.specs.Jobs.{Driving, Formatting, Hunting, Request, Inspection, asks_both_forms, calls, check, core, debug, drive, format, history, hunt, inspect, profile, races, request_of_words, run, stored, timeline, version}
use Rattle.ckrt_cli_words.specs.declared.job.WordsFault.{WordsFault}
use Rattle.ckrt_cli_words.specs.declared.job.WordsFault.TheVariants as words
use Rattle.ckrt_drive.specs.declared.stream.StreamOutput.{StreamOutput}
use Rattle.ckrt_cli_disk.specs.CoreFiles.{CoresPath}
use Rattle.ckrt_cli_disk.specs.Driving.{DrivesPath, IsLent, IsUnwritten, Means, means_of}
use Rattle.ckrt_cli_disk.specs.Making.{Makes}
use Rattle.ckrt_cli_reports.specs.Outside.{IsRefused, Outside, asked_for}
use Rattle.ckrt_cli_files.specs.Openings.{opened, with_closed, with_disk}
use Rattle.ckrt_cli_disk.specs.Running.{disk_of, RunsDisk}
use Rattle.ckrt_cli_reports.specs.Statuses.{status_of, status_of_words}
use Rattle.ckrt_cli_reports.specs.Lines.{ReportsOutcome, ReportsWords, SaysLine, formatted_line, version_line}
use Rattle.ckrt_cli_disk.specs.Showing.{Shows, shown_of}
use Rattle.ckrt_hunt_schedules.specs.declared.verdict.Verdict.{Verdict}
use Rattle.ckrt_hunt_schedules.specs.declared.verdict.Verdict.TheVariants as verdict
use Rattle.ckrt_look_recording.specs.declared.rule.Rule.{Rule}
use Rattle.ckrt_cli.specs.Looking.{ChecksPath, ListsPath, ProfilesPath, RacesPath, TimelinePath, TracesPath}
use Rattle.ckrt_cli.specs.Debugging.{DebugsPath}
use Rattle.ckrt_cli.specs.Histories.{TellsHistory, given}
use Rattle.ckrt_cli.specs.Hunting.{Hunter, HuntsPath, kept_size}
use Rattle.ckrt_cli_files.specs.Real.{IsDiskOf, IsFilledOf, RealFile, real_gives}
use Rattle.ckrt_cli_files.specs.Sources.{Gives}
use Rattle.ckrt_cli_reports.specs.declared.done.Done.{Done}
use Rattle.ckrt_cli_reports.specs.declared.done.Done.TheVariants as done
use Rattle.ckrt_cli_reports.specs.declared.driven.Driven.{Driven}
use Rattle.ckrt_cli_reports.specs.declared.fault.JobFault.{JobFault}
use Rattle.ckrt_cli_reports.specs.declared.fault.JobFault.TheVariants as job
use Rattle.ckrt_cli_disk.specs.declared.running.Unserved.{Unserved}

-- what a disk is made with
abbrev pub config_of : Formatting → Config
config_of f = record { pages = f.pages; harts = f.harts; journal = f.journal }

-- the bytes that it needs
abbrev pub size_of : Formatting → ℕ
size_of f = size_needed (config_of f)

-- the line for a disk that was made as the words ask
abbrev pub made_line : Formatting → List ℕ
made_line f = formatted_line (size_of f)

-- the stored program: it prints the letter A, and exits with 0
abbrev pub IMAGE : List ℕ
IMAGE =
    0x13 ∷ 0x05 ∷ 0x10 ∷ 0x04 ∷ 0x93 ∷ 0x08 ∷ 0x20 ∷ 0x00 ∷ 0x73 ∷ 0x00 ∷ 0x00 ∷ 0x00
    ∷ 0x13 ∷ 0x05 ∷ 0x00 ∷ 0x00 ∷ 0x93 ∷ 0x08 ∷ 0x10 ∷ 0x00 ∷ 0x73 ∷ 0x00 ∷ 0x00 ∷ 0x00 ∷ []

-- and its machine
abbrev pub CONFIG : Config
CONFIG = record { pages = 16; harts = 1; journal = 4096 }

-- THE OUTSIDE

-- What the program can reach: its stream, and what a writer holds; the bytes of an image, by its path; the disks of a path, and those once what is shorter
-- is filled up to so many bytes; and what else its sources may give. And the rules by which it finds callers.
pub record Reach {D : Type 0} (d : Ghosts D) (W : Type 0) : Type 1 where
  pub stream : Ghosts (StreamOutput W)
  pub contents : W → Option (List ℕ)
  pub images : List ℕ → Option (List ℕ)
  pub Opens : List ℕ → D → Type 0
  pub Fills : List ℕ → ℕ → D → Type 0
  pub others : Gives D
  pub rules : List Rule

-- of files of the system: each was opened as this and of this path
abbrev pub real_files : {H W : Type 0} {g : Files (RealFile H)} {d : Ghosts (FileDisk (RealFile H) g)}
    → Ghosts (StreamOutput W) → (W → Option (List ℕ)) → List Rule → Reach d W
real_files {d = d} stream contents rules = record {
  stream = stream;
  contents = contents;
  images = λ _. None;
  Opens = λ path disk. IsDiskOf d path disk;
  Fills = λ path _ disk. IsFilledOf d path disk;
  others = real_gives d;
  rules = rules;
}

-- What a reporter said: all before, and all behind it, where these are known, and whether it has failed.
pub record Said : Type 0 where
  pub before : Option (List ℕ)
  pub behind : Option (List ℕ)
  pub has_failed : Bool

-- THE JOBS

-- the service of the stored program ended early, or didn't begin; its configuration isn't refused. What was written goes from a to b, and what was
-- left to read from r to s.
pub record EndsStored (a b r s : Option (List ℕ)) (e : JobFault) : Type 0 where
  pub fault : ServeFault
  pub is : e ≡ job.Serve fault
  pub valid : fault ≢ serve.Format
  -- what was written is a beginning of what the bytes read get
  pub part : ServedPart a b r s (fresh CONFIG IMAGE)
  -- and nothing where it didn't begin
  pub unwritten : IsStartFault fault → b ≡ a
  pub unread : IsStartFault fault → s ≡ r

-- the stored program was served in memory
abbrev pub ServesStored : (a b r s : Option (List ℕ)) → Result (Unit {0}) JobFault → Type 0
ServesStored a b r s (Ok done) = Served a b r s (fresh CONFIG IMAGE)
ServesStored a b r s (Err e) = EndsStored a b r s e

-- the line of a disk that was made; nothing is written where none was
abbrev pub SaysMade : (a b : Option (List ℕ)) → List ℕ → (made result : Result (Unit {0}) JobFault)
    → Type 0
SaysMade a b line (Ok done) result = SaysLine a b line result
SaysMade a b line (Err e) result = (result ≡ Err e) × (b ≡ a)

-- the disk of the job's path was made with the image of the job's path, or why it wasn't
pub record MakesPath {D : Type 0} (d : Ghosts D) (f : Formatting) (known : Option (List ℕ))
    (Fills : D → Type 0) (old new : Outside D) (result : Result (Unit {0}) JobFault)
    : Type 0 where
  pub made : Result (Unit {0}) JobFault
  pub makes : Makes d (config_of f) known Fills f.image f.disk old.openings new.openings made
  pub says : SaysMade old.written new.written (made_line f) made result
  pub unread : new.unread ≡ old.unread

-- what a run answers
abbrev pub outcome_of : {D : Type 0} → Result D (Unserved D) → Result (Unit {0}) JobFault
outcome_of (Ok disk) = Ok tt
outcome_of (Err u) = Err u.fault

-- a disk that was opened was run, and closed as the run left it
pub record RunsOpened {D : Type 0} (d : Ghosts D) (Opens : D → Type 0) (asked new : Outside D)
    (result : Result (Unit {0}) JobFault) : Type 0 where
  pub start : D
  pub is_opened : Opens start
  pub ran : Result D (Unserved D)
  pub runs : RunsDisk d start asked.written new.written asked.unread new.unread ran
  pub gives : result ≡ outcome_of ran
  pub closes : new.openings ≡ with_closed asked.openings (disk_of ran)

-- the disk of this path was run, or can't be opened
abbrev pub RunsPath : {D : Type 0} → Ghosts D → (path : List ℕ) → (D → Type 0)
    → (old new : Outside D) → Result (Unit {0}) JobFault → Type 0
RunsPath d path Opens old new result =
    IsRefused path old new result
    ⊎ RunsOpened d Opens (asked_for old (with_disk old.openings (opened path))) new result

-- a disk that was opened to be looked at was shown, and closed as it was then
pub record ShowsOpened {D : Type 0} (d : Ghosts D) (Opens : D → Type 0) (i : Inspection)
    (asked new : Outside D) (result : Result (Unit {0}) JobFault) : Type 0 where
  pub start : D
  pub is_opened : Opens start
  pub end : D
  pub shows : Shows d start end (shown_of i.at i.code) asked.written new.written result
  pub closes : new.openings ≡ with_closed asked.openings end
  pub unread : new.unread ≡ asked.unread

-- the disk of the inspection's path was shown, or can't be opened
abbrev pub ShowsPath : {D : Type 0} → Ghosts D → (D → Type 0) → Inspection
    → (old new : Outside D) → Result (Unit {0}) JobFault → Type 0
ShowsPath d Opens i old new result =
    IsRefused i.disk old new result
    ⊎ ShowsOpened d Opens i (asked_for old (with_disk old.openings (opened i.disk))) new
    result

-- that of a history, where the words say so, and else of a disk
abbrev pub ShowsAt : (is_history : Bool) → {D : Type 0} → Ghosts D → (D → Type 0) → Inspection
    → (old new : Outside D) → Result (Unit {0}) JobFault → Type 0
ShowsAt true d Opens i old new result = ListsPath d Opens i old new result
ShowsAt false d Opens i old new result = ShowsPath d Opens i old new result

abbrev pub InspectsPath : {D : Type 0} → Ghosts D → (D → Type 0) → Inspection
    → (old new : Outside D) → Result (Unit {0}) JobFault → Type 0
InspectsPath d Opens i old new result = ShowsAt i.history d Opens i old new result

-- the outcome of a job that has no end of its own
abbrev pub outcome_without_end : Result (Unit {0}) JobFault → Result Done JobFault
outcome_without_end (Ok it) = Ok done.Whole
outcome_without_end (Err fault) = Err fault

-- what a drive came to is its outcome
abbrev pub outcome_with_end : Result Driven JobFault → Result Done JobFault
outcome_with_end (Ok driven) = Ok (done.Driven driven)
outcome_with_end (Err fault) = Err fault

-- what the runs of a hunt came to is its outcome
abbrev pub outcome_of_hunt : Result Verdict JobFault → Result Done JobFault
outcome_of_hunt (Ok verdict.Good) = Ok done.Whole
outcome_of_hunt (Ok verdict.Several) = Ok done.Several
outcome_of_hunt (Ok verdict.Bad) = Ok done.Bad
outcome_of_hunt (Err fault) = Err fault

-- a job was done that has such outcomes, or why it wasn't
abbrev pub Does : {A : Type 0} → (Result A JobFault → Result Done JobFault)
    → (Result A JobFault → Type 0) → Result Done JobFault → Type 0
Does {A = A} outcome_of Holds outcome =
    (result : Result A JobFault) × (outcome ≡ outcome_of result) × Holds result

-- what the program may reach for a hunt
abbrev pub hunter_in : {D W : Type 0} {d : Ghosts D} → Reach d W → Hunting → Hunter D
hunter_in it h = record { asked = h; known = it.images; Fills = λ path. it.Fills path (kept_size h) }

-- and for a drive
abbrev pub means_in : {D W : Type 0} {d : Ghosts D} → Reach d W → (old new : Outside D) → Driving
    → Means d W
means_in {d = d} it old new j =
    means_of d it.stream (IsLent it.contents old.written new.written) it.images it.Opens it.Fills
    it.others j

-- what the program does for a request: what asks for no file opens none
abbrev pub Performs : {D W : Type 0} {d : Ghosts D} → Reach d W → Request → (old new : Outside D)
    → Result Done JobFault → Type 0
Performs it stored old new outcome =
    Does outcome_without_end (ServesStored old.written new.written old.unread new.unread) outcome
    × (new.openings ≡ old.openings)
Performs it version old new outcome =
    Does outcome_without_end (SaysLine old.written new.written version_line) outcome
    × (new.unread ≡ old.unread) × (new.openings ≡ old.openings)
Performs {d = d} it (format f) old new outcome =
    Does outcome_without_end
    (MakesPath d f (it.images f.image) (it.Fills f.disk (size_of f)) old new) outcome
Performs {d = d} it (run disk) old new outcome =
    Does outcome_without_end (RunsPath d disk (it.Opens disk) old new) outcome
Performs {d = d} it (inspect i) old new outcome =
    Does outcome_without_end (InspectsPath d (it.Opens i.disk) i old new) outcome
Performs {d = d} it (core c) old new outcome =
    Does outcome_without_end (CoresPath d (it.Opens c.disk) (it.Fills c.file) c old.openings new.openings) outcome
    × (new.written ≡ old.written) × (new.unread ≡ old.unread)
Performs {d = d} it (calls s) old new outcome =
    Does outcome_without_end (TracesPath d (it.Opens s.disk) s old new) outcome
Performs {d = d} it (debug j) old new outcome =
    Does outcome_without_end (DebugsPath d (it.Opens j.disk) j old new) outcome
Performs {d = d} it (races s) old new outcome =
    Does outcome_without_end (RacesPath d (it.Opens s.stretch.disk) it.rules s old new) outcome
Performs {d = d} it (check s) old new outcome =
    Does outcome_without_end (ChecksPath d (it.Opens s.stretch.disk) it.rules s old new) outcome
Performs {d = d} it (timeline j) old new outcome =
    Does outcome_without_end (TimelinePath d (it.Opens j.stretch.disk) j old new) outcome
Performs {d = d} it (profile p) old new outcome =
    Does outcome_without_end (ProfilesPath d (it.Opens p.stretch.disk) p old new) outcome
Performs {d = d} it (hunt h) old new outcome =
    Does outcome_of_hunt (HuntsPath d (hunter_in it h) old new) outcome
Performs {d = d} it (history k) old new outcome =
    Does outcome_without_end (TellsHistory d (given it.Opens it.others.Outputs) k old new) outcome
Performs {d = d} it (drive j) old new outcome =
    Does outcome_with_end
    (DrivesPath (means_in it old new j) j old.openings new.openings) outcome
    × IsUnwritten j.output old.written new.written × (new.unread ≡ old.unread)

-- THE WORDS

-- the program's words ask for something: what was done, what was said of it, and the status
pub record RunsRequest {D W : Type 0} {d : Ghosts D} (it : Reach d W) (q : Request)
    (old new : Outside D) (said : Said) (status : ℕ) : Type 0 where
  pub outcome : Result Done JobFault
  pub performs : Performs it q old new outcome
  pub reports : ReportsOutcome outcome said.before said.behind said.has_failed
  pub gives : status ≡ status_of outcome

-- they ask for nothing, or couldn't be read for want of memory: nothing was opened, written or read
pub record RefusesWords {D : Type 0} (ws : List (List ℕ)) (old new : Outside D) (said : Said)
    (status : ℕ) : Type 0 where
  pub fault : WordsFault
  pub reports : ReportsWords fault said.before said.behind said.has_failed
  pub same : new ≡ old
  pub some : ws ≢ []
  pub taken : takes ckrt_app ws ≡ true → asks_both_forms ws ≡ false → fault ≡ words.OutOfMemory
  pub gives : status ≡ status_of_words fault

-- what the program does for its words
abbrev pub RunsWords : {D W : Type 0} {d : Ghosts D} → Reach d W → (ws : List (List ℕ))
    → (old new : Outside D) → Said → (status : ℕ) → Type 0
RunsWords it ws old new said status =
    ((q : Request) × (request_of_words ws ≡ Some q) × RunsRequest it q old new said status)
    ⊎ RefusesWords ws old new said status
