-- What meets the premises of the promise of many drives from the words on.
use Rattle.std.specs.Prelude.{◌≡◌, ◌≢◌, ℕ, List, [], ◌∷◌, None, Some}
use Rattle.ckrt_disk.specs.declared.disk.Disk.{Ghosts}
use Rattle.ckrt_cli_reports.specs.Outside.{Outside}
use Rattle.ckrt_cli.specs.Performing.{Reach, RunsWords, Said}
use Rattle.ckrt_schedule.specs.declared.schedule.Schedule.{Schedule}
use Rattle.ckrt_cli_files.specs.declared.output.OpenedOutput.{OpenedOutput}
use Rattle.ckrt_stored.specs.Programs.{Program, RecoversToStart}
use Rattle.ckrt_cli_words.specs.Jobs.{Driving, drive, request_of_words}
use Rattle.ckrt_cli.specs.Commands.{DriveIn, GoOn, Paths, Run, drive_in}
use Rattle.ckrt_witness.specs.Drives.{IsReopened}

-- words ask for a drive of a disk that is there, with its output and its input in files
pub record AsksDrive (words : List (List ℕ)) : Type 0 where
  pub driving : Driving
  pub asks : request_of_words words ≡ Some (drive driving)
  pub output : List ℕ
  pub to : driving.output ≡ Some output
  pub input : List ℕ
  pub with_input : driving.input ≡ Some input
  pub without_image : driving.image ≡ None

-- Sources give this disk, this output, and an input with these bytes, whatever they are asked for; they fill no disk and make none longer.
pub record GivesThree {D W : Type 0} {d : Ghosts D} (it : Reach d W) (disk output : D)
    (file : List ℕ) : Type 0 where
  pub disks : (path : List ℕ) (x : D) → it.Opens path x → x ≡ disk
  pub fills : (path : List ℕ) (size : ℕ) (x : D) → it.Fills path size x → ⊥
  pub outputs : (path : List ℕ) (x : OpenedOutput D) → it.others.Outputs path x
      → x.output ≡ output
  pub inputs : (path : List ℕ) (x : D) → it.others.Inputs path x → d.content x ≡ file
  pub longer : (x : D) (size : ℕ) (y : D) → it.others.Longer x size y → ⊥

-- By these words there was a run over such sources, of which no job failed: it left these two.
pub record Ran {S D W : Type 0} {d : Ghosts D} (reach : S → Reach d W) (words : List (List ℕ))
    (disk output : D) (file : List ℕ) (end left : D) : Type 0 where
  pub sources : S
  pub gives : GivesThree (reach sources) disk output file
  pub old : Outside D
  pub new : Outside D
  pub said : Said
  pub status : ℕ
  pub runs : RunsWords (reach sources) words old new said status
  pub done : status ≢ 1
  pub named : status ≢ 2
  pub closed : (more : List D) × (new.openings.closed ≡ end ∷ more)
  pub closed_output : (more : List D) × (new.openings.closed_output ≡ left ∷ more)

-- Two runs by the same words: the second on what a stop behind the first left.
pub record RanTwice {S D W : Type 0} {d : Ghosts D} (reach : S → Reach d W) (p : Program)
    (file : List ℕ) : Type 0 where
  pub words : List (List ℕ)
  pub asked : AsksDrive words
  pub start : D
  pub output : D
  pub end : D
  pub left : D
  pub one : Ran reach words start output file end left
  pub next : D
  pub opened : D
  pub finish : D
  pub whole : D
  pub other : Ran reach words next opened file finish whole
  pub honest : (x : D) → d.is_honest x
  pub formatted : RecoversToStart p (d.content start)
  pub settled : (i : ℕ) → ¬ d.pending start i
  pub durable : (i : ℕ) → ¬ d.pending output i
  pub disk_again : IsReopened d end next
  pub output_again : IsReopened d left opened
  pub some_input : file ≢ []
  pub some_output : d.content whole ≢ d.content output

-- this run came to its drive, and left this output
pub record CameToDrive {S D W : Type 0} {d : Ghosts D} {reach : S → Reach d W} {f : Paths}
    (r : Run reach f) (output : D) : Type 0 where
  pub drove : DriveIn r
  pub is : drive_in r ≡ Some drove
  pub leaves : drove.came.run.end ≡ output

-- two runs with a stop between, an input, and an output that isn't as it was, for which all premises hold; both came to their drives
pub record RunsWitness {S D W : Type 0} {d : Ghosts D} (reach : S → Reach d W) (file : List ℕ)
    : Type 0 where
  pub paths : Paths
  pub schedule : Schedule
  pub program : Program
  pub first : Run reach paths
  pub second : Run reach paths
  pub on : GoOn (record { file = Some file; schedule = Some schedule }) program first
      (second ∷ [])
  pub left : D
  pub whole : D
  pub one : CameToDrive first left
  pub other : CameToDrive second whole
  pub some_input : file ≢ []
  pub some_output : d.content whole ≢ d.content first.output
