-- The program of a disk that stands at its path, beside the image of the words. Only a disk that notes its program is compared, and its image is
-- read then.
use Rattle.std.specs.Prelude.{◌≡◌, ◌≢◌, ◌⊎◌, List, ℕ, Option, Some, None, Result, Ok, Err, IfOk, is_err}
use Rattle.ckrt_disk.specs.Frame.{IsOnlyRead}
use Rattle.ckrt_disk.specs.declared.disk.DeviceFault.{DeviceFault}
use Rattle.ckrt_disk.specs.declared.disk.Disk.{Ghosts}
use Rattle.ckrt_stored.specs.declared.config.Config.{Config}
use Rattle.ckrt_stored.specs.Superblock.{note_for, note_of}
use Rattle.ckrt_stored.specs.declared.fault.RecoverFault.TheVariants as recover
use Rattle.ckrt_stored.specs.declared.note.ProgramNote.{ProgramNote}
use Rattle.ckrt_cli_files.specs.Openings.{Openings, opened, with_closed, with_image}
use Rattle.ckrt_cli_reports.specs.declared.fault.JobFault.{JobFault}
use Rattle.ckrt_cli_reports.specs.declared.fault.JobFault.TheVariants as job
use Rattle.ckrt_cli_disk.specs.Making.{EndsOnImage}

-- the largest disk: an image that fits no memory is that of none
abbrev pub largest : Config
largest = record { pages = 65536; harts = 1; journal = 4096 }

-- The image of a path was read, and is that of this note, where its bytes are known; or it was unfit.
abbrev pub NotesImage : {D : Type 0} → (known : Option (List ℕ)) → (path : List ℕ)
    → (old new : Openings D) → Result ProgramNote JobFault → Type 0
NotesImage known path old new (Ok note) =
    (new ≡ with_image old (opened path))
    × ((bytes : List ℕ) → known ≡ Some bytes → note ≡ note_for bytes)
NotesImage known path old new (Err why) = EndsOnImage largest known path old new why

-- A disk with this note is that of the image, and is handed on; or it is another's, and was closed as it was.
abbrev pub EndsNoted : {D : Type 0} → (note given : ProgramNote) → D → (old new : Openings D)
    → Result D JobFault → Type 0
EndsNoted note given disk old new result =
    ((given ≡ note) × (result ≡ Ok disk) × (new ≡ old))
    ⊎ ((given ≢ note)
    × (result ≡ Err (job.ImageDiffers (record { disk = note; image = given })))
    × (new ≡ with_closed old disk))

-- where the image was unfit the disk was closed as it was
abbrev pub EndsRead : {D : Type 0} → (note : ProgramNote) → D → (old new : Openings D)
    → Result D JobFault → (given : Result ProgramNote JobFault) → Type 0
EndsRead note disk old new result (Ok given) = EndsNoted note given disk old new result
EndsRead note disk old new result (Err why) = (result ≡ Err why) × (new ≡ with_closed old disk)

-- the image of this path was read, and the disk handed on where it is that one's
pub record ComparesImage {D : Type 0} (known : Option (List ℕ)) (path : List ℕ)
    (note : ProgramNote) (disk : D) (old new : Openings D) (result : Result D JobFault)
    : Type 0 where
  pub given : Result ProgramNote JobFault
  pub asked : Openings D
  pub reads : NotesImage known path old asked given
  pub ends : EndsRead note disk asked new result given

-- what became of a disk that was looked at: a read failed, or its program isn't known, or it was compared
abbrev pub EndsLooked : {D : Type 0} → (known : Option (List ℕ)) → (path : List ℕ) → D
    → (old new : Openings D) → Result D JobFault
    → (found : Result (Option ProgramNote) DeviceFault) → Type 0
EndsLooked known path disk old new result (Err failed) =
    (result ≡ Err (job.Recover recover.Device)) × (new ≡ with_closed old disk)
EndsLooked known path disk old new result (Ok None) = (result ≡ Ok disk) × (new ≡ old)
EndsLooked known path disk old new result (Ok (Some note)) =
    ComparesImage known path note disk old new result

-- what the disk notes of its program was read, and no byte of it was written
pub record LooksAtProgram {D : Type 0} (d : Ghosts D) (known : Option (List ℕ)) (path : List ℕ)
    (start : D) (old new : Openings D) (result : Result D JobFault) : Type 0 where
  pub disk : D
  pub found : Result (Option ProgramNote) DeviceFault
  pub read : IsOnlyRead d start disk (is_err found)
  pub exact : IfOk found (λ note. d.is_honest disk → note ≡ note_of (d.content start))
  pub ends : EndsLooked known path disk old new result found

-- without an image in the words the disk is handed on as it is
abbrev pub Compares : {D : Type 0} → Ghosts D → (images : List ℕ → Option (List ℕ))
    → (image : Option (List ℕ)) → D → (old new : Openings D) → Result D JobFault → Type 0
Compares d images None start old new result = (result ≡ Ok start) × (new ≡ old)
Compares d images (Some path) start old new result =
    LooksAtProgram d (images path) path start old new result
