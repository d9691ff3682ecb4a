-- What meets the premises of the clauses on runs by their words that make a disk, tell the version, or name no job.
use Rattle.std.specs.Prelude.{◌≡◌, ◌≢◌, ℕ, false, List, [], Some}
use Rattle.ckrt_disk.specs.declared.disk.Disk.{Ghosts}
use Rattle.ckrt_cli_reports.specs.Outside.{Outside}
use Rattle.ckrt_cli.specs.Performing.{Reach, RunsWords, Said}
use Rattle.ckrt_cli_words.specs.Jobs.{Formatting, asks_version, format, request_of_words, version}

-- there was a run by these words, with this status
pub record Ended {D W : Type 0} {d : Ghosts D} (it : Reach d W) (words : List (List ℕ))
    (status : ℕ) : Type 0 where
  pub old : Outside D
  pub new : Outside D
  pub said : Said
  pub runs : RunsWords it words old new said status

-- words ask for a disk to be made; they aren't the one word for the version
pub record AsksFormat (words : List (List ℕ)) : Type 0 where
  pub asked : Formatting
  pub asks : request_of_words words ≡ Some (format asked)
  pub other : asks_version words ≡ false

-- Over these sources a disk was made by its words, the version was told, and words were refused.
pub record WordsWitness {S D W : Type 0} {d : Ghosts D} (reach : S → Reach d W) : Type 0 where
  pub making : List (List ℕ)
  pub asks : AsksFormat making
  pub sources : S
  pub made : Ended (reach sources) making 0
  pub telling : List (List ℕ)
  pub asks_version : request_of_words telling ≡ Some version
  pub others : S
  pub told : Ended (reach others) telling 0
  pub nonsense : List (List ℕ)
  pub some : nonsense ≢ []
  pub unasked : S
  pub refused : Ended (reach unasked) nonsense 2
