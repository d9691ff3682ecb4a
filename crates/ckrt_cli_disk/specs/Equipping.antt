-- What a drive has beside its disk: its input, and the history that it keeps, which gets what it lacks of the disk before the drive begins.
use Rattle.std.specs.Prelude.{◌≡◌, ◌⊎◌, ℕ, true, false, List, Option, Some, None, option_map, Result, Ok, Err, IfErr, IfOk, IsOk}
use Rattle.ckrt_disk.specs.Disk.{HasFailed}
use Rattle.ckrt_disk.specs.declared.disk.Disk.{Ghosts}
use Rattle.ckrt_recovery.specs.Opening.{IsSyncedAndRead}
use Rattle.ckrt_stored.specs.Write.{IsDurable}
use Rattle.ckrt_history.specs.Either.{TellsJoined}
use Rattle.ckrt_history.specs.Joining.{is_disk_fault, is_file_fault}
use Rattle.ckrt_history.specs.Opening.{IsOpenedOn, IsOpening, file_after}
use Rattle.ckrt_history.specs.Opening as opening
use Rattle.ckrt_history.specs.declared.join_fault.JoinFault.{JoinFault}
use Rattle.ckrt_history.specs.declared.join_fault.JoinFault.TheVariants as join
use Rattle.ckrt_history.specs.declared.kept.KeptHistory.{KeptHistory}
use Rattle.ckrt_history.specs.declared.kept.Unkept.{Unkept}
use Rattle.ckrt_cli_files.specs.Openings.{Openings, opened, with_all_closed, with_both_closed, with_history}
use Rattle.ckrt_cli_files.specs.Sources.{Gives}
use Rattle.ckrt_cli_files.specs.declared.file.JobFile.TheVariants as file
use Rattle.ckrt_cli_files.specs.declared.output.OpenedOutput.{OpenedOutput}
use Rattle.ckrt_cli_reports.specs.Outside.{Lacks}
use Rattle.ckrt_cli_reports.specs.declared.fault.JobFault.{JobFault}
use Rattle.ckrt_cli_reports.specs.declared.fault.JobFault.TheVariants as job
use Rattle.ckrt_cli_disk.specs.Feeding.{file_of}
use Rattle.ckrt_cli_disk.specs.declared.equipping.Beside.{Beside}
use Rattle.ckrt_cli_disk.specs.declared.equipping.Equipped.{Equipped}
use Rattle.ckrt_cli_disk.specs.declared.equipping.Left.{Left}
use Rattle.ckrt_cli_disk.specs.declared.feeding.Intake.{Intake}
use Rattle.ckrt_cli_disk.specs.declared.feeding.Supplied.{Supplied}

-- THE FILES

-- the files of what a drive has beside it, where it isn't driven
abbrev pub left_of : {D : Type 0} {d : Ghosts D} → Beside D d → Left D
left_of beside =
    record { input = file_of beside.intake; history = option_map (λ it. it.file) beside.history }

-- a disk was closed, and what its drive left beside it
abbrev pub with_left_closed : {D : Type 0} → Openings D → Left D → (disk : D) → Openings D
with_left_closed o left disk = with_all_closed o left.history left.input disk

-- THE HISTORY

-- what a job answers where a history has no more of its disk
abbrev pub fault_of : JoinFault → JobFault
fault_of (join.Disk f) = job.Recover f
fault_of (join.File f) = job.History f
fault_of join.TooSmall = job.HistoryFull
fault_of join.HistoryBehind = job.HistoryBehind
fault_of join.HistoryDiffers = job.HistoryDiffers

-- A file that had so many bytes was given the history of a disk, which was synced first and then only read; or why it wasn't.
pub record OpensKept {D : Type 0} (d : Ghosts D) (bytes : ℕ) (start disk file : D)
    (made : Result (KeptHistory D d) (Unkept D)) : Type 0 where
  -- in which order, and so what a stop at any moment leaves of both; where it was opened the sync didn't fail
  pub order : (it : IsOpening d d start disk file (file_after made))
      × (IsOk made → it.failed ≡ false)
  pub synced : IsSyncedAndRead d start disk (is_disk_fault (opening.fault_of made))
  pub refused : IfErr (opening.fault_of made) (λ fault.
      d.is_honest disk → d.is_honest (file_after made)
      → TellsJoined bytes (d.size file) (d.content start) (d.content file) (Err fault))
  pub opened : IfOk made (λ it. d.is_honest disk → d.is_honest it.file
      → IsOpenedOn (d.content start) (d.content file) it)
  pub durable : IfOk made (λ it. d.is_honest it.file → IsDurable d it.file)
  pub failed : is_file_fault (opening.fault_of made) ≡ true
      → HasFailed (d.failures file) (d.failures (file_after made))

-- the files of a disk that can't have its history
abbrev pub left_unkept : {D : Type 0} → Option (Intake D) → Unkept D → Left D
left_unkept intake unkept = record { input = file_of intake; history = Some unkept.file }

-- what came of a disk and its input where the history was opened so
abbrev pub EquipsSo : {D : Type 0} {d : Ghosts D} → (noted : Supplied D) → (asked new : Openings D)
    → (found : Result (Equipped D d) JobFault) → (made : Result (KeptHistory D d) (Unkept D))
    → Type 0
EquipsSo noted asked new found (Ok history) =
    (found ≡ Ok (record {
      disk = noted.disk;
      beside = record { intake = noted.intake; history = Some history };
    }))
    × (new ≡ asked)
EquipsSo noted asked new found (Err unkept) =
    (found ≡ Err (fault_of unkept.fault))
    × (new ≡ with_left_closed asked (left_unkept noted.intake unkept) noted.disk)

-- what came of a disk, its input and a file that was opened
pub record EquipsOpened {D : Type 0} (d : Ghosts D) (start : Supplied D) (opened : OpenedOutput D)
    (asked new : Openings D) (found : Result (Equipped D d) JobFault) : Type 0 where
  pub disk : D
  pub made : Result (KeptHistory D d) (Unkept D)
  pub opens : OpensKept d opened.length start.disk disk opened.output made
  pub ends : EquipsSo (record { disk = disk; intake = start.intake }) asked new found made

-- the file of this path was opened for the history
pub record OpensHistory {D : Type 0} (d : Ghosts D) (Outputs : OpenedOutput D → Type 0)
    (start : Supplied D) (asked new : Openings D) (found : Result (Equipped D d) JobFault)
    : Type 0 where
  pub output : OpenedOutput D
  pub is_opened : Outputs output
  pub equips : EquipsOpened d start output asked new found

-- What became of a disk and its input with the history of a path: where that can't be opened both were closed as they were.
abbrev pub EquipsWith : {D : Type 0} → (d : Ghosts D) → (OpenedOutput D → Type 0) → (path : List ℕ)
    → (start : Supplied D) → (old new : Openings D) → (found : Result (Equipped D d) JobFault)
    → Type 0
EquipsWith d Outputs path start old new found =
    Lacks file.History path
    (λ x. with_both_closed (with_history old x) (file_of start.intake) start.disk) new found
    ⊎ OpensHistory d Outputs start (with_history old (opened path)) new found

-- a disk and its input come with the history that the words name, or without one
abbrev pub Equips : {D : Type 0} → (d : Ghosts D) → Gives D → (path : Option (List ℕ))
    → (start : Supplied D) → (old new : Openings D) → (found : Result (Equipped D d) JobFault)
    → Type 0
Equips d gives None start old new found =
    (found ≡ Ok (record {
      disk = start.disk;
      beside = record { intake = start.intake; history = None };
    }))
    × (new ≡ old)
Equips d gives (Some path) start old new found =
    EquipsWith d (gives.Outputs path) path start old new found
