-- The input of a drive: where it goes on, and the room for the record of it on the disk.
use Rattle.std.specs.Prelude.{◌≡◌, ◌≢◌, ◌⊎◌, ◌≤◌, ◌<◌, ◌+◌, ℕ, nat_le, if◌then◌else◌, List, Option, Some, None, option_map, Result, Ok, Err}
use Rattle.ckrt_stored.specs.Layout.{size_needed}
use Rattle.ckrt_disk.specs.Frame.{IsOnlyRead}
use Rattle.ckrt_disk.specs.declared.disk.Disk.{Ghosts}
use Rattle.ckrt_stored.specs.Reads.{is_device}
use Rattle.ckrt_stored.specs.Recovery.{◌>>=◌, Agrees, Is, in_use}
use Rattle.ckrt_stored.specs.declared.fault.RecoverFault.{RecoverFault}
use Rattle.ckrt_stored.specs.declared.fault.RecoverFault.TheVariants.{OutOfMemory}
use Rattle.ckrt_drive.specs.Offset.{Tells, fails_by_device, offset_from}
use Rattle.ckrt_drive.specs.Slot.{RECORD_BYTES}
use Rattle.ckrt_drive.specs.declared.offset_fault.OffsetFault.{OffsetFault}
use Rattle.ckrt_drive.specs.declared.offset_fault.OffsetFault.TheVariants.{Unrecovered, NotRecorded}
use Rattle.ckrt_cli_words.specs.Jobs.{Driving}
use Rattle.ckrt_cli_files.specs.Openings.{Openings, opened, with_both_closed, with_closed, with_input, with_lengthened}
use Rattle.ckrt_cli_reports.specs.Outside.{Lacks}
use Rattle.ckrt_cli_reports.specs.Ranges.{config_for}
use Rattle.ckrt_cli_files.specs.Sources.{Gives}
use Rattle.ckrt_cli_reports.specs.declared.fault.JobFault.{JobFault}
use Rattle.ckrt_cli_reports.specs.declared.fault.JobFault.TheVariants as job
use Rattle.ckrt_cli_disk.specs.declared.feeding.Intake.{Intake}
use Rattle.ckrt_cli_disk.specs.declared.feeding.Supplied.{Supplied}
use Rattle.ckrt_cli_disk.specs.declared.feeding.Unready.{Unready}
use Rattle.ckrt_cli_files.specs.declared.file.FileFault.{FileFault}
use Rattle.ckrt_cli_files.specs.declared.file.JobFile.TheVariants as file

-- WHERE IT GOES ON

-- How many bytes of its input the program has taken: what the disk tells, to which the words are told where it can't tell alone. Words that
-- say more than that are refused.
abbrev pub taken_by_words : (from : Option ℕ) → Result ℕ OffsetFault → Result ℕ JobFault
taken_by_words None (Ok taken) = Ok taken
taken_by_words (Some from) (Ok taken) =
    if nat_le from taken then Ok taken else Err (job.OffsetDiffers taken)
taken_by_words from (Err NotRecorded) = Err job.NotRecorded
taken_by_words from (Err (Unrecovered fault)) = Err (job.Recover fault)

-- from start to disk it was read, and only read, how many these are
pub record LooksUp {D : Type 0} (d : Ghosts D) (from : Option ℕ) (start disk : D)
    (taken : Result ℕ JobFault) : Type 0 where
  pub told : Result ℕ OffsetFault
  pub read : IsOnlyRead d start disk (fails_by_device told)
  pub exact : d.is_honest disk → Tells told (offset_from from (d.content start))
  -- it takes no memory
  pub memory : told ≢ Err (Unrecovered OutOfMemory)
  pub says : taken ≡ taken_by_words from told

-- the file of a drive's input, where there is one
abbrev pub file_of : {D : Type 0} → Option (Intake D) → Option D
file_of intake = option_map (λ it. it.file) intake

-- THE ROOM

-- a disk that is made has room for the record where its words name an input
abbrev pub spare_for : Option (List ℕ) → ℕ
spare_for None = 0
spare_for (Some path) = RECORD_BYTES

-- the bytes of a disk that is made
abbrev pub made_size : Driving → ℕ
made_size j = size_needed (config_for j.sizes) + spare_for j.input

-- the bytes that the disk with this content has to have, with the record after those of the format
abbrev pub size_wanted : (image : List ℕ) → Result ℕ RecoverFault
size_wanted image = in_use image >>= λ used. Ok (size_needed used.0 + RECORD_BYTES)

-- it has them
pub record HasRoom {D : Type 0} (d : Ghosts D) (size : ℕ) (disk : D) (old new : Openings D)
    (made : Result D (Unready D)) : Type 0 where
  pub long : size ≤ d.size disk
  pub is : made ≡ Ok disk
  pub unasked : new ≡ old

-- it was made longer
pub record GetsRoom {D : Type 0} (d : Ghosts D) (Longer : D → ℕ → D → Type 0) (size : ℕ) (disk : D)
    (old new : Openings D) (made : Result D (Unready D)) : Type 0 where
  pub short : d.size disk < size
  pub longer : D
  pub is : made ≡ Ok longer
  pub is_longer : Longer disk size longer
  pub long : size ≤ d.size longer
  pub asks : new ≡ with_lengthened old disk

-- it can't be made longer
pub record LacksRoom {D : Type 0} (d : Ghosts D) (size : ℕ) (disk : D) (old new : Openings D)
    (made : Result D (Unready D)) : Type 0 where
  pub short : d.size disk < size
  pub why : FileFault
  pub is : made ≡ Err (record { disk = disk; fault = job.File file.Disk why })
  pub asks : new ≡ with_lengthened old disk

-- what became of a disk where this size is wanted, or a read of it failed
abbrev pub EndsWithRoom : {D : Type 0} → Ghosts D → (Longer : D → ℕ → D → Type 0) → (disk : D)
    → (old new : Openings D) → Result D (Unready D) → Result ℕ RecoverFault → Type 0
EndsWithRoom d Longer disk old new made (Err fault) =
    (made ≡ Err (record { disk = disk; fault = job.Recover fault })) × (new ≡ old)
EndsWithRoom d Longer disk old new made (Ok size) =
    HasRoom d size disk old new made ⊎ GetsRoom d Longer size disk old new made ⊎ LacksRoom d size disk old new made

-- a disk was looked at, and made longer where it has no room for the record
pub record MakesRoom {D : Type 0} (d : Ghosts D) (Longer : D → ℕ → D → Type 0) (start : D)
    (old new : Openings D) (made : Result D (Unready D)) : Type 0 where
  pub disk : D
  pub size : Result ℕ RecoverFault
  pub read : IsOnlyRead d start disk (is_device size)
  pub exact : d.is_honest disk
      → Agrees (λ n. n) (λ e. e) size (Is (size_wanted (d.content start)))
  -- it takes no memory
  pub memory : size ≢ Err OutOfMemory
  pub ends : EndsWithRoom d Longer disk old new made size

-- THE DISK WITH ITS INPUT

-- what came of a disk and its input where room was made so
abbrev pub SuppliesRoomy : {D : Type 0} → Intake D → (asked new : Openings D)
    → (found : Result (Supplied D) JobFault) → (made : Result D (Unready D)) → Type 0
SuppliesRoomy it asked new found (Ok disk) =
    (found ≡ Ok (record { disk = disk; intake = Some it })) × (new ≡ asked)
SuppliesRoomy it asked new found (Err unready) =
    (found ≡ Err unready.fault) × (new ≡ with_both_closed asked (Some it.file) unready.disk)

-- the file has the bytes that were taken of it, and the disk comes with it once there is room for the record
pub record TakesInput {D : Type 0} (d : Ghosts D) (Longer : D → ℕ → D → Type 0) (disk : D)
    (it : Intake D) (old new : Openings D) (found : Result (Supplied D) JobFault) : Type 0 where
  pub long : it.taken ≤ d.size it.file
  pub made : Result D (Unready D)
  pub asked : Openings D
  pub room : MakesRoom d Longer disk old asked made
  pub ends : SuppliesRoomy it asked new found made

-- the file is shorter than what was taken of it, and both were closed
pub record RefusesInput {D : Type 0} (d : Ghosts D) (disk : D) (it : Intake D)
    (old new : Openings D) (found : Result (Supplied D) JobFault) : Type 0 where
  pub short : d.size it.file < it.taken
  pub is : found
      ≡ Err (job.InputTooShort (record { length = d.size it.file; taken = it.taken }))
  pub closes : new ≡ with_both_closed old (Some it.file) disk

-- what became of a disk and an input that was opened
abbrev pub SuppliesOpened : {D : Type 0} → Ghosts D → (Longer : D → ℕ → D → Type 0) → (disk : D)
    → Intake D → (old new : Openings D) → (found : Result (Supplied D) JobFault) → Type 0
SuppliesOpened d Longer disk it old new found =
    RefusesInput d disk it old new found ⊎ TakesInput d Longer disk it old new found

-- it was opened, and so much had been taken of it
pub record OpensInput {D : Type 0} (d : Ghosts D) (gives : Gives D) (path : List ℕ) (disk : D)
    (old new : Openings D) (found : Result (Supplied D) JobFault) (taken : ℕ) : Type 0 where
  pub input : D
  pub is_opened : gives.Inputs path input
  pub ends : SuppliesOpened d gives.Longer disk (record { file = input; taken = taken })
      (with_input old (opened path)) new found

-- What became of a disk where its program has taken so much of the input of a path, or why that isn't known.
abbrev pub SuppliesTaken : {D : Type 0} → Ghosts D → Gives D → (path : List ℕ) → (disk : D)
    → (old new : Openings D) → (found : Result (Supplied D) JobFault)
    → (taken : Result ℕ JobFault) → Type 0
SuppliesTaken d gives path disk old new found (Err fault) =
    (found ≡ Err fault) × (new ≡ with_closed old disk)
SuppliesTaken d gives path disk old new found (Ok taken) =
    Lacks file.Input path (λ x. with_closed (with_input old x) disk) new found
    ⊎ OpensInput d gives path disk old new found taken

-- How much its program has taken was looked up in a disk, and from there on the input of a path is used with it.
pub record SuppliesFrom {D : Type 0} (d : Ghosts D) (gives : Gives D) (path : List ℕ)
    (from : Option ℕ) (start : D) (old new : Openings D) (found : Result (Supplied D) JobFault)
    : Type 0 where
  pub disk : D
  pub taken : Result ℕ JobFault
  pub looks : LooksUp d from start disk taken
  pub ends : SuppliesTaken d gives path disk old new found taken

-- a disk comes with the input that the words name, or without one
abbrev pub Supplies : {D : Type 0} → Ghosts D → Gives D → (path : Option (List ℕ))
    → (from : Option ℕ) → (start : D) → (old new : Openings D)
    → (found : Result (Supplied D) JobFault) → Type 0
Supplies d gives None from start old new found =
    (found ≡ Ok (record { disk = start; intake = None })) × (new ≡ old)
Supplies d gives (Some path) from start old new found =
    SuppliesFrom d gives path from start old new found
