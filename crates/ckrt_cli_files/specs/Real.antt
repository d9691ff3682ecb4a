-- Files of the system: as what, of which path, and after which others each was opened, and how long the system told it to be.
use Rattle.std.specs.Prelude.{◌≡◌, ◌-◌, ◌^◌, ℕ, List, [], ◌∷◌}
use Rattle.ckrt_disk.specs.declared.disk.Disk.{Ghosts as Disks}
use Rattle.ckrt_disk.specs.FileDisk.{file_of}
use Rattle.ckrt_disk.specs.SystemFile.{calls_of, opened_of}
use Rattle.ckrt_disk.specs.declared.file.FileDisk.{FileDisk}
use Rattle.ckrt_disk.specs.declared.file_use.FileUse.{FileUse}
use Rattle.ckrt_disk.specs.declared.file_use.FileUse.TheVariants as opened_as
use Rattle.ckrt_disk.specs.declared.positioned.PositionedFile.{Ghosts}
use Rattle.ckrt_disk.specs.declared.system_file.SystemFile.{SystemFile}
use Rattle.ckrt_cli_files.specs.declared.output.OpenedOutput.{OpenedOutput}
use Rattle.ckrt_cli_files.specs.declared.told.ToldFile.{ToldFile}
use Rattle.ckrt_cli_files.specs.Sources.{Gives}

-- the file of a disk, and the disk
abbrev pub RealFile : Type 0 → Type 0
RealFile H = ToldFile (SystemFile H)

-- a disk of a file that was just opened, the last of these
pub record IsFresh {H : Type 0} {g : Ghosts (RealFile H)} (openings : List (FileUse × List ℕ))
    (disk : FileDisk (RealFile H) g) : Type 0 where
  pub opened : opened_of (file_of disk).file ≡ openings
  pub calls : calls_of (file_of disk).file ≡ []

-- how many bytes the system told that the file of a disk has, when it was opened; or how many one may get that grows while it is looked at
abbrev pub told_length : {H : Type 0} {g : Ghosts (RealFile H)} → FileDisk (RealFile H) g → ℕ
told_length disk = (file_of disk).length

-- such a disk has just as many bytes
pub record IsFreshWhole {H : Type 0} {g : Ghosts (RealFile H)} (d : Disks (FileDisk (RealFile H) g))
    (openings : List (FileUse × List ℕ)) (disk : FileDisk (RealFile H) g) : Type 0 where
  pub fresh : IsFresh openings disk
  pub size : d.size disk ≡ told_length disk

-- how many bytes an output has: more than any file
abbrev pub OUTPUT_SIZE : ℕ
OUTPUT_SIZE = 2 ^ 63 - 1

-- an output comes with the length that the system told of its file, and ends behind any file
pub record IsFreshOutput {H : Type 0} {g : Ghosts (RealFile H)}
    (d : Disks (FileDisk (RealFile H) g)) (openings : List (FileUse × List ℕ))
    (it : OpenedOutput (FileDisk (RealFile H) g)) : Type 0 where
  pub fresh : IsFresh openings it.output
  pub length : it.length ≡ told_length it.output
  pub size : d.size it.output ≡ OUTPUT_SIZE

-- a disk of a file that was just opened, as this and of this path, after others, of as many bytes as the system told of it
pub record IsOpenedAs {H : Type 0} {g : Ghosts (RealFile H)} (d : Disks (FileDisk (RealFile H) g))
    (what : FileUse) (path : List ℕ) (disk : FileDisk (RealFile H) g) : Type 0 where
  pub before : List (FileUse × List ℕ)
  pub fresh : IsFreshWhole d ((what, path) ∷ before) disk

-- the output of a path
pub record IsOutputOf {H : Type 0} {g : Ghosts (RealFile H)} (d : Disks (FileDisk (RealFile H) g))
    (path : List ℕ) (it : OpenedOutput (FileDisk (RealFile H) g)) : Type 0 where
  pub before : List (FileUse × List ℕ)
  pub fresh : IsFreshOutput d ((opened_as.Output, path) ∷ before) it

-- the disks of a path, as they are, and those that were filled up first or made so
abbrev pub IsDiskOf : {H : Type 0} {g : Ghosts (RealFile H)} → Disks (FileDisk (RealFile H) g)
    → (path : List ℕ) → FileDisk (RealFile H) g → Type 0
IsDiskOf d path disk = IsOpenedAs d opened_as.Disk path disk

abbrev pub IsFilledOf : {H : Type 0} {g : Ghosts (RealFile H)} → Disks (FileDisk (RealFile H) g)
    → (path : List ℕ) → FileDisk (RealFile H) g → Type 0
IsFilledOf d path disk = IsOpenedAs d opened_as.Filled path disk

-- the outputs and inputs of a path were opened as these, and a disk that is made longer is opened once more
abbrev pub real_gives : {H : Type 0} {g : Ghosts (RealFile H)} → Disks (FileDisk (RealFile H) g)
    → Gives (FileDisk (RealFile H) g)
real_gives d = record {
  Outputs = λ path it. IsOutputOf d path it;
  Inputs = λ path it. IsOpenedAs d opened_as.Input path it;
  Longer = λ disk size it. IsOpenedAs d opened_as.Longer [] it;
}
