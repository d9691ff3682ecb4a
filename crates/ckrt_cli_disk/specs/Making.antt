-- The making of a disk.
use Rattle.std.specs.Prelude.{◌≡◌, ◌≢◌, ◌↔◌, ◌⊎◌, ◌<◌, ◌≤◌, ℕ, true, false, List, length, Option, Some, Result, Ok, Err, IsErrOf, OnOk}
use Rattle.ckrt_disk.specs.Frame.{AtAnyMoment, WritesWithin}
use Rattle.ckrt_disk.specs.declared.disk.Disk.{Ghosts}
use Rattle.ckrt_stored.specs.declared.config.Config.{Config}
use Rattle.ckrt_stored.specs.Layout.{is_open, is_valid, memory_size, size_needed}
use Rattle.ckrt_stored.specs.declared.fault.FormatFault.{FormatFault}
use Rattle.ckrt_stored.specs.declared.fault.FormatFault.TheVariants as format
use Rattle.ckrt_stored.specs.Format.{FormatsAt, IsFormatting, IsMade, IsRefusedBy, StaysFormatted, WasFormatted, calls_of, format_refusal, is_device}
use Rattle.ckrt_cli_files.specs.Elf.{is_elf}
use Rattle.ckrt_cli_files.specs.Openings.{Openings, opened, refused, with_abandoned, with_closed, with_disk, with_image}
use Rattle.ckrt_cli_reports.specs.declared.fault.JobFault.{JobFault}
use Rattle.ckrt_cli_reports.specs.declared.fault.JobFault.TheVariants as job
use Rattle.ckrt_cli_files.specs.declared.file.FileFault.{FileFault}
use Rattle.ckrt_cli_files.specs.declared.file.FileFault.TheVariants as fault
use Rattle.ckrt_cli_files.specs.declared.file.JobFile.TheVariants as file

-- what a making answers where formatting answered so
abbrev pub answer_of : Result (Unit {0}) FormatFault → Result (Unit {0}) JobFault
answer_of (Ok done) = Ok done
answer_of (Err f) = Err (job.Format f)

-- A disk, from its opening to the end of its making with this answer of formatting: AlreadyFormatted comes where its first byte is an open
-- gate, and it reads as before then; Ok where that gate was closed, and it holds the program then; Device only where its failures grew.
pub record Formats {D : Type 0} (d : Ghosts D) (config : Config) (guest : List ℕ) (start end : D)
    (answer : Result (Unit {0}) FormatFault) : Type 0 where
  -- what a stop leaves at any moment since it was opened
  pub any_moment : AtAnyMoment d start end (IsFormatting config guest d start)
  -- where it was written, and how often; its failures
  pub within : WritesWithin d (FormatsAt config) (calls_of answer) start end (is_device answer)
  -- it is refused exactly where configuration, image or size are
  pub is_refused : IsRefusedBy (format_refusal (d.size start) config guest) answer
  pub already_formatted : answer ≡ Err format.AlreadyFormatted → d.is_honest end
      → WasFormatted d start end
  -- whatever the answer, a disk whose first gate was open isn't written
  pub stays : d.is_honest end → is_open (d.content start) ≡ true → StaysFormatted d start end
  pub made : OnOk answer (d.is_honest end → IsMade d config guest start end)
  pub size : OnOk answer (size_needed config ≤ d.size end)

-- The disk was closed, or given up where it wasn't formatted: a file that was made for it goes then. One that holds a program already is no
-- such file.
abbrev pub given_back : {D : Type 0} → Openings D → D → Result (Unit {0}) FormatFault → Openings D
given_back asked end (Ok done) = with_closed asked end
given_back asked end (Err f) = with_abandoned asked end

-- A disk that was opened was formatted, and given back as formatting left it. The openings go from asked to new.
pub record FormatsOpened {D : Type 0} (d : Ghosts D) (config : Config) (guest : List ℕ) (start : D)
    (asked new : Openings D) (result : Result (Unit {0}) JobFault) : Type 0 where
  pub end : D
  pub answer : Result (Unit {0}) FormatFault
  pub gives : result ≡ answer_of answer
  pub formats : Formats d config guest start end answer
  pub closes : new ≡ given_back asked end answer

-- A disk was opened and then formatted with the image, whose bytes may be known.
pub record MakesDisk {D : Type 0} (d : Ghosts D) (config : Config) (known : Option (List ℕ))
    (Fills : D → Type 0) (asked new : Openings D) (result : Result (Unit {0}) JobFault)
    : Type 0 where
  pub guest : List ℕ
  pub is_guest : (bytes : List ℕ) → known ≡ Some bytes → guest ≡ bytes
  pub start : D
  pub is_opened : Fills start
  pub ends : FormatsOpened d config guest start asked new result

-- the image can't be read: that it is an ELF file is no such fault
abbrev pub IsUnreadable : JobFault → Type 0
IsUnreadable (job.File at why) = (at ≡ file.Image) × (why ≢ fault.IsElf)
IsUnreadable _ = ⊥

-- the image, where its bytes are known, fits the guest's memory, and is no ELF file
abbrev pub IsFit : Config → (known : Option (List ℕ)) → Type 0
IsFit config known =
    (bytes : List ℕ) → known ≡ Some bytes
    → (length bytes ≤ memory_size config) × (is_elf bytes ≡ false)

-- How a making ended that found its image unfit: the image of this path was refused, or a read of it failed; it is an ELF file; there was no
-- memory for it; it is longer than the guest's memory. No disk was asked for.
abbrev pub EndsOnImage : {D : Type 0} → Config → (known : Option (List ℕ)) → (image : List ℕ)
    → (old new : Openings D) → JobFault → Type 0
EndsOnImage config known image old new (job.File file.Image why) =
    (new ≡ with_image old (refused image why))
    ⊎ ((new ≡ with_image old (opened image))
    × (why ≡ fault.IsElf → (bytes : List ℕ) → known ≡ Some bytes → is_elf bytes ≡ true))
EndsOnImage config known image old new job.OutOfMemory = new ≡ with_image old (opened image)
EndsOnImage config known image old new (job.Format format.ImageTooLong) =
    (new ≡ with_image old (opened image))
    × ((bytes : List ℕ) → known ≡ Some bytes → memory_size config < length bytes)
EndsOnImage config known image old new _ = ⊥

module _ {D : Type 0} (d : Ghosts D) (config : Config) (known : Option (List ℕ)) (Fills : D → Type 0) (image disk : List ℕ) (old new : Openings D) where
  -- its disk was asked for, after an image that fits, and was made
  abbrev pub MakesItsDisk : Result (Unit {0}) JobFault → Type 0
  MakesItsDisk result =
      IsFit config known
      × MakesDisk d config known Fills (with_disk (with_image old (opened image)) (opened disk)) new
      result

  -- the image fits, and the disk can't be opened, or isn't asked for, since its path is the image's
  abbrev pub EndsAtDisk : FileFault → Type 0
  EndsAtDisk why = IsFit config known × ((new ≡ with_disk (with_image old (opened image)) (refused disk why))
      ⊎ ((disk ≡ image) × (why ≡ fault.IsImage) × (new ≡ with_image old (opened image))))

  -- How a making ended. Where the configuration is out of its ranges nothing was asked for.
  abbrev pub EndsMaking : Result (Unit {0}) JobFault → Type 0
  EndsMaking (Err (job.Format format.BadConfig)) = new ≡ old
  EndsMaking (Err (job.File file.Disk why)) = EndsAtDisk why
  EndsMaking (Err (job.File file.Image why)) =
      EndsOnImage config known image old new (job.File file.Image why)
  EndsMaking (Err (job.Format format.ImageTooLong)) =
      EndsOnImage config known image old new (job.Format format.ImageTooLong)
  EndsMaking (Err job.OutOfMemory) = EndsOnImage config known image old new job.OutOfMemory
  EndsMaking (Err (job.Format f)) = MakesItsDisk (Err (job.Format f))
  EndsMaking (Err _) = ⊥
  EndsMaking (Ok done) = MakesItsDisk (Ok done)

-- A whole making, of the disk of a path with the image of a path.
pub record Makes {D : Type 0} (d : Ghosts D) (config : Config) (known : Option (List ℕ))
    (Fills : D → Type 0) (image disk : List ℕ) (old new : Openings D)
    (result : Result (Unit {0}) JobFault) : Type 0 where
  -- the configuration is out of its ranges exactly where the answer says so
  pub bad_config : IsErrOf result (job.Format format.BadConfig) ↔ (is_valid config ≡ false)
  pub ends : EndsMaking d config known Fills image disk old new result
  -- the image's file is never made the disk
  pub apart : disk ≡ image → new.disk ≡ old.disk
  -- a disk is made only with an image that fits
  pub fits : OnOk result (IsFit config known)
