-- What meets the premises of the law of a history beside many runs, from the words on.
use Rattle.std.specs.Prelude.{◌≡◌, ◌≢◌, ◌≤◌, ℕ, List, [], ◌∷◌, length, None, Some, Ok}
use Rattle.ckrt_disk.specs.declared.disk.Disk.{Ghosts}
use Rattle.ckrt_drive.specs.Stages.{Stage}
use Rattle.ckrt_drive.specs.Together.{Past, past}
use Rattle.ckrt_events.specs.declared.event.Event.{Event}
use Rattle.ckrt_look_recording.specs.Recording.{Recorded}
use Rattle.ckrt_recovery.specs.Recovered.{IsRecovered}
use Rattle.ckrt_recovery.specs.Represents.{Represents, acknowledged_of}
use Rattle.ckrt_stored.specs.Programs.{Program, RecoversToStart}
use Rattle.ckrt_history.specs.History.{HasHistory}
use Rattle.ckrt_history.specs.Many.{AllStandBeside, HasJust, IsKeepingRun, StandBeside, StopLeavesBeside, Three}
use Rattle.ckrt_cli_disk.specs.Driving.{HistoryHolds}
use Rattle.ckrt_cli_disk.specs.Equipping.{OpensKept}
use Rattle.ckrt_cli_words.specs.Jobs.{Driving, drive, request_of_words}
use Rattle.ckrt_cli_files.specs.declared.output.OpenedOutput.{OpenedOutput}
use Rattle.ckrt_cli_reports.specs.Outside.{Outside}
use Rattle.ckrt_cli.specs.Commands.{DriveIn, Paths, drive_in}
use Rattle.ckrt_cli.specs.HistoryRuns.{GoOnBeside, History, IsSound, RunBeside, first_of, found_by, history_of, last_of, stages_of}
use Rattle.ckrt_cli.specs.Performing.{Reach, RunsWords, Said}
use Rattle.ckrt_cli.specs.Runs.{ProgramRun, way_of_run}
use Rattle.ckrt_witness.specs.Beside.{AreReopened, three}

-- words ask for a drive of a disk that is there, without an input, with its output in a file, and with its history in another one, of this path
pub record AsksHistory (words : List (List ℕ)) (path : List ℕ) : Type 0 where
  pub driving : Driving
  pub asks : request_of_words words ≡ Some (drive driving)
  pub output : List ℕ
  pub to : driving.output ≡ Some output
  pub other : output ≢ path
  pub keeps : driving.history ≡ Some path
  pub without_input : driving.input ≡ None
  pub without_image : driving.image ≡ None

-- Sources give this disk, this file for the path of the history, and this output for any other path; they fill no disk and make none longer.
pub record GivesBeside {D W : Type 0} {d : Ghosts D} (it : Reach d W) (path : List ℕ)
    (x : Three D D D) : Type 0 where
  pub disks : (other : List ℕ) (disk : D) → it.Opens other disk → disk ≡ x.disk
  pub fills : (other : List ℕ) (size : ℕ) (disk : D) → it.Fills other size disk → ⊥
  pub outputs : (other : List ℕ) (o : OpenedOutput D) → other ≢ path → it.others.Outputs other o
      → o.output ≡ x.output
  pub files : (o : OpenedOutput D) → it.others.Outputs path o → o.output ≡ x.file
  pub longer : (disk : D) (size : ℕ) (y : D) → it.others.Longer disk size y → ⊥

-- By these words there was a run over such sources, of which no job failed: it left these three.
pub record RanBeside {S D W : Type 0} {d : Ghosts D} (reach : S → Reach d W)
    (words : List (List ℕ)) (path : List ℕ) (x end : Three D D D) : Type 0 where
  pub sources : S
  pub gives : GivesBeside (reach sources) path x
  pub old : Outside D
  pub new : Outside D
  pub said : Said
  pub status : ℕ
  pub runs : RunsWords (reach sources) words old new said status
  pub done : status ≢ 1
  pub named : status ≢ 2
  pub closed : (more : List D) × (new.openings.closed ≡ end.disk ∷ more)
  pub closed_output : (more : List D) × (new.openings.closed_output ≡ end.output ∷ more)
  pub closed_history : (more : List D) × (new.openings.closed_history ≡ end.file ∷ more)

-- these bytes are a history that has so many events, or more
abbrev pub HasEvents : List ℕ → ℕ → Type 0
HasEvents image count = (r : Recorded) × HasHistory image r × (count ≤ length r.events)

-- Two runs by the same words, from a formatted disk and a file that is no history on; the second on what a stop behind the first left. A stop behind
-- it leaves a history that has so many events, or more.
pub record RanTwice {S D W : Type 0} {d : Ghosts D} (reach : S → Reach d W) (p : Program)
    (count : ℕ) : Type 0 where
  pub words : List (List ℕ)
  pub path : List ℕ
  pub asked : AsksHistory words path
  pub x : Three D D D
  pub end : Three D D D
  pub one : RanBeside reach words path x end
  pub next : Three D D D
  pub again : AreReopened d d d end next
  pub whole : Three D D D
  pub other : RanBeside reach words path next whole
  pub last : Three D D D
  pub behind : AreReopened d d d whole last
  pub sound : (disk : D) → IsSound d disk
  pub formatted : RecoversToStart p (d.content x.disk)
  pub settled : (i : ℕ) → ¬ d.pending x.disk i
  pub durable : (i : ℕ) → ¬ d.pending x.output i
  pub kept : (i : ℕ) → ¬ d.pending x.file i
  pub none : (r : Recorded) → HasHistory (d.content x.file) r → ⊥
  pub has : HasEvents (d.content last.file) count

-- A run whose history was opened before it, and kept without a fault: with what stood before, and what a stop left, it meets all premises of the law
-- of such runs. So it is a run of the law of many, and behind it the history has all events that are acknowledged.
pub record KeepsWitness {D : Type 0} {d : Ghosts D} (r : ProgramRun d d) (h : History r) : Type 0 where
  pub before : Past
  pub noted : D
  pub file : D
  pub bytes : ℕ
  pub opens : OpensKept d bytes noted r.start file (Ok h.it)
  pub recovered : IsRecovered d r.start r.before
  pub disk : IsSound d r.after.disk
  pub output : IsSound d r.end
  pub end : IsSound d h.end
  pub read : (way_of_run r).IsRead
  pub holds : HistoryHolds r.drives.told
  pub stand : StandBeside d d d before (three noted r.output file)
  pub at : Stage d d
  pub left : Three D D D
  pub stop : StopLeavesBeside (stages_of r h) (first_of r h) at left
  pub keep : IsKeepingRun d d d (three noted r.output file) left
  pub acknowledged : (all : List Event) × Represents before.program all r.after
      × HasJust before.program (acknowledged_of all r.after) (last_of r h)

-- this run came to its drive, which kept its history, and left this file of it
pub record DroveKeeping {S D W : Type 0} {d : Ghosts D} {reach : S → Reach d W} {f : Paths}
    {path : List ℕ} (r : RunBeside reach f path) (file : D) : Type 0 where
  pub drove : DriveIn r.run
  pub is : drive_in r.run ≡ Some drove
  pub history : History drove.came.run
  pub keeps : history_of drove.came.run ≡ Some history
  pub leaves : history.end ≡ file

-- Two runs with a stop between, for which all premises hold; both came to their drives and kept their history, which has so many events in the end, or
-- more. So whatever each left stands. The second meets the premises of the law of runs that keep a history, too.
pub record CommandsWitness {S D W : Type 0} {d : Ghosts D} (reach : S → Reach d W) (count : ℕ)
    : Type 0 where
  pub paths : Paths
  pub path : List ℕ
  pub program : Program
  pub first : RunBeside reach paths path
  pub second : RunBeside reach paths path
  pub last : Three D D D
  pub on : GoOnBeside program first (second ∷ []) last
  pub stand : AllStandBeside d d d (past program (d.content first.run.output) [] [])
      (found_by second ∷ last ∷ [])
  pub left : D
  pub whole : D
  pub one : DroveKeeping first left
  pub other : DroveKeeping second whole
  pub keeps : KeepsWitness other.drove.came.run other.history
  pub has : HasEvents (d.content last.file) count
