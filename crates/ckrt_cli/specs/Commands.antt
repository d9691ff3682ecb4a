-- Runs of the program, one after another, by words that drive one disk onto one output with one input: each is on what the run before it, or a
-- stop of that, left of both files.
use Rattle.std.proofs.Common.{inl, inr, ◌∙◌, ap, sym, subst}
use Rattle.std.specs.Prelude.{◌≡◌, ℕ, List, [], ◌∷◌, IfSome, Option, Some, None}
use Rattle.ckrt_disk.specs.declared.disk.Disk.{Ghosts}
use Rattle.ckrt_drive.specs.Stages.{Stage}
use Rattle.ckrt_stored.specs.Programs.{Program}
use Rattle.ckrt_cli_words.specs.Jobs.{Driving, Request, drive, request_of_words}
use Rattle.ckrt_cli_reports.specs.Outside.{Outside}
use Rattle.ckrt_cli.specs.Performing.{Reach, RunsRequest, RunsWords, Said, means_in}
use Rattle.ckrt_drive.specs.Drives.{StopLeaves}
use Rattle.ckrt_drive.specs.Lengthening.{IsLengthened}
use Rattle.ckrt_drive.specs.Theorem.{Begin}
use Rattle.ckrt_drive.specs.Together.{Past, past}
use Rattle.ckrt_cli.specs.Coming.{Came, of_path}
use Rattle.ckrt_cli.specs.Promise.{Common, Drove, HasSchedule, HoldsBehind, IsAsBefore, IsKept, as_drive, drove}

-- ONE RUN

-- the files of a command, by their paths
pub record Paths : Type 0 where
  pub disk : List ℕ
  pub output : List ℕ
  pub input : Option (List ℕ)

-- words drive this disk onto this output with this input, if any, whatever else they say
pub record IsOnto (f : Paths) (j : Driving) : Type 0 where
  pub disk : j.disk ≡ f.disk
  pub output : j.output ≡ Some f.output
  pub input : j.input ≡ f.input

-- A run of the program by such words. What it can reach goes by what its sources are when it begins, as `reach` says.
pub record Run {S D W : Type 0} {d : Ghosts D} (reach : S → Reach d W) (f : Paths) : Type 0 where
  pub words : List (List ℕ)
  pub driving : Driving
  pub asks : request_of_words words ≡ Some (drive driving)
  pub onto : IsOnto f driving
  -- its sources, what it reached before and behind it, what it said, and its status: it went as `run_words` says
  pub sources : S
  pub old : Outside D
  pub new : Outside D
  pub said : Said
  pub status : ℕ
  pub runs : RunsWords (reach sources) words old new said status
  -- both files as they were when it began
  pub disk : D
  pub output : D
  -- the stage of its drive at which it was stopped; none where it was stopped before that, or ended before
  pub stopped : Option (Stage d d)

-- the request of an option, or else this one
abbrev pub asked_or : Request → Option Request → Request
asked_or q None = q
asked_or q (Some asked) = asked

-- where a run by words that ask for this drive has come to it, that
module _ {D W : Type 0} {d : Ghosts D} (it : Reach d W) (ws : List (List ℕ)) (j : Driving)
    (path : List ℕ) (asks : request_of_words ws ≡ Some (drive j)) (named : j.output ≡ Some path)
    (old new : Outside D) (said : Said) (status : ℕ) where
  abbrev pub of_request : RunsRequest it (drive j) old new said status
      → Option (Came d it.others j path)
  of_request run =
      of_path (means_in it old new j) j path named run.performs.0.0 old.openings new.openings
      run.performs.0.2

  abbrev pub of_words : RunsWords it ws old new said status → Option (Came d it.others j path)
  of_words (inr refuses) = None
  of_words (inl runs) =
      of_request
      (subst (λ q. RunsRequest it q old new said status)
      (ap (asked_or (drive j)) (sym runs.1 ∙ asks)) runs.2)

-- its drive, where it came to one, and wasn't stopped before that
abbrev pub DriveIn : {S D W : Type 0} {d : Ghosts D} {reach : S → Reach d W} {f : Paths}
    → Run reach f → Type 0
DriveIn {d = d} {reach = reach} {f = f} r = Drove d (reach r.sources).others r.driving f.output

abbrev pub drive_in : {S D W : Type 0} {d : Ghosts D} {reach : S → Reach d W} {f : Paths}
    → (r : Run reach f) → Option (DriveIn r)
drive_in {reach = reach} {f = f} r =
    drove
    (of_words (reach r.sources) r.words r.driving f.output r.asks r.onto.output r.old r.new r.said
    r.status r.runs)
    r.stopped

-- and for a run, which has the turn and the seed of all, where these are the same
pub record IsKeptIn {S D W : Type 0} {d : Ghosts D} {reach : S → Reach d W} {f : Paths} (c : Common)
    (r : Run reach f) : Type 0 where
  pub kept : IfSome (drive_in r) (IsKept c r.disk r.output)
  pub schedule : IfSome c.schedule (λ u. HasSchedule u r.driving)

abbrev pub AllKept : {S D W : Type 0} {d : Ghosts D} {reach : S → Reach d W} {f : Paths} → Common
    → List (Run reach f) → Type 0
AllKept c [] = Unit {0}
AllKept c (r ∷ more) = IsKeptIn c r × AllKept c more

-- What a run left of disk and output: in its drive what a stop leaves at that stage; before it the output as it was, and the disk too, perhaps
-- with zeros behind it, and with its schedule noted.
abbrev pub Leaves : {S D W : Type 0} {d : Ghosts D} {reach : S → Reach d W} {f : Paths}
    → (r : Run reach f) → Option (DriveIn r) → (disk output : D) → Type 0
Leaves r (Some x) disk output = StopLeaves (as_drive x).stages (as_drive x).first x.at disk output
Leaves {d = d} r None disk output = IsLengthened d r.disk disk × IsAsBefore d r.output output

-- each run begins with what the one before it left of both
abbrev pub AllFollow : {S D W : Type 0} {d : Ghosts D} {reach : S → Reach d W} {f : Paths}
    → Run reach f → List (Run reach f) → Type 0
AllFollow r [] = Unit {0}
AllFollow r (s ∷ more) = Leaves r (drive_in r) s.disk s.output × AllFollow s more

-- All that is asked: of runs of a program, one after another.
pub record GoOn {S D W : Type 0} {d : Ghosts D} {reach : S → Reach d W} {f : Paths} (c : Common)
    (p : Program) (r : Run reach f) (more : List (Run reach f)) : Type 0 where
  -- the first finds a disk that was formatted with the program, and an output of which nothing is pending
  pub begin : Begin d d p r.disk r.output
  -- the system keeps the disk model for the files of each
  pub kept : AllKept c (r ∷ more)
  -- opening a path gives what was left of its file
  pub follow : AllFollow r more

abbrev pub AllHold : {S D W : Type 0} {d : Ghosts D} {reach : S → Reach d W} {f : Paths}
    → Common → Past → List (Run reach f) → Type 0
AllHold c h [] = Unit {0}
AllHold c h (r ∷ more) = HoldsBehind c h (λ next. AllHold c next more) (drive_in r)

-- The promise of many drives, from the words on: of runs whose sources are as they may be when each begins.
abbrev pub RunsGoOn : {S D W : Type 0} {d : Ghosts D} → (S → Reach d W) → Type 0
RunsGoOn {d = d} reach =
    (f : Paths) (c : Common) (p : Program) (r : Run reach f) (more : List (Run reach f))
    → GoOn c p r more → AllHold c (past p (d.content r.output) [] []) (r ∷ more)

-- and of runs that can all reach the same
abbrev pub CommandsGoOn : {D W : Type 0} {d : Ghosts D} → Reach d W → Type 0
CommandsGoOn it = RunsGoOn {S = Unit {0}} (λ _. it)
