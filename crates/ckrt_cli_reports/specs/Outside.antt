-- What a job reaches outside.
use Rattle.std.specs.Prelude.{◌≡◌, ℕ, List, Option, Result, Err}
use Rattle.ckrt_cli_files.specs.Openings.{Opening, Openings, refused, with_disk}
use Rattle.ckrt_cli_files.specs.declared.file.FileFault.{FileFault}
use Rattle.ckrt_cli_files.specs.declared.file.JobFile.{JobFile}
use Rattle.ckrt_cli_files.specs.declared.file.JobFile.TheVariants as file
use Rattle.ckrt_cli_reports.specs.declared.fault.JobFault.{JobFault}
use Rattle.ckrt_cli_reports.specs.declared.fault.JobFault.TheVariants as job

-- What a job has reached at a moment: what its sources were asked for, and, where these are known, what its writer has and what its reader
-- has left.
pub record Outside (D : Type 0) : Type 0 where
  pub openings : Openings D
  pub written : Option (List ℕ)
  pub unread : Option (List ℕ)

abbrev pub outside : {D : Type 0} → Openings D → (written unread : Option (List ℕ)) → Outside D
outside openings written unread =
    record { openings = openings; written = written; unread = unread }

-- the same once more was asked for
abbrev pub asked_for : {D : Type 0} → Outside D → Openings D → Outside D
asked_for old openings = record old { openings = openings }

-- this file of a job was refused its path, for an opening or for a name, and is told by that; the openings go on as they do with that
pub record Lacks {D A : Type 0} (at : JobFile) (path : List ℕ) (With : Opening → Openings D)
    (new : Openings D) (result : Result A JobFault) : Type 0 where
  pub why : FileFault
  pub is : result ≡ Err (job.File at why)
  pub refuses : new ≡ With (refused path why)

-- the disk of this path was asked for and can't be opened
pub record IsRefused {D : Type 0} (path : List ℕ) (old new : Outside D)
    (result : Result (Unit {0}) JobFault) : Type 0 where
  pub why : FileFault
  pub is : result ≡ Err (job.File file.Disk why)
  pub refuses : new.openings ≡ with_disk old.openings (refused path why)
  pub unwritten : new.written ≡ old.written
  pub unread : new.unread ≡ old.unread
