-- The making of a disk that a drive doesn't find: beside its path, and by its name once it is whole. So at every moment nothing stands at the
-- path, or a whole disk.
use Rattle.std.specs.Prelude.{◌≡◌, ◌⊎◌, ℕ, List, Option, Some, None, Result, Ok, Err, true, false}
use Rattle.ckrt_disk.specs.declared.disk.Disk.{Ghosts}
use Rattle.ckrt_stored.specs.declared.config.Config.{Config}
use Rattle.ckrt_stored.specs.Layout.{is_valid}
use Rattle.ckrt_stored.specs.declared.fault.FormatFault.{FormatFault}
use Rattle.ckrt_stored.specs.declared.fault.FormatFault.TheVariants as format
use Rattle.ckrt_cli_disk.specs.Making.{EndsOnImage, Formats, IsFit}
use Rattle.ckrt_cli_disk.specs.Programs.{Compares}
use Rattle.ckrt_cli_files.specs.Openings.{Openings, opened, refused, with_abandoned, with_disk, with_image, with_making, with_named}
use Rattle.ckrt_cli_reports.specs.Outside.{Lacks}
use Rattle.ckrt_cli_reports.specs.declared.fault.JobFault.{JobFault}
use Rattle.ckrt_cli_reports.specs.declared.fault.JobFault.TheVariants as job
use Rattle.ckrt_cli_files.specs.declared.file.FileFault.{FileFault}
use Rattle.ckrt_cli_files.specs.declared.file.FileFault.TheVariants as fault
use Rattle.ckrt_cli_files.specs.declared.file.JobFile.TheVariants as file

-- THE NAME

-- What became of a disk in the making where formatting answered so: only one that is formatted gets a name, and one that isn't is given up.
abbrev pub EndsNaming : {D : Type 0} → (path : List ℕ) → D → (asked new : Openings D)
    → Result (Unit {0}) FormatFault → Result D JobFault → Type 0
EndsNaming path end asked new (Ok done) result =
    ((result ≡ Ok end) × (new ≡ with_named asked (opened path) end))
    ⊎ Lacks file.Making path (λ x. with_abandoned (with_named asked x end) end) new result
EndsNaming path end asked new (Err f) result =
    (result ≡ Err (job.Format f)) × (new ≡ with_abandoned asked end)

-- THE MAKING

-- A disk in the making was formatted, from start to end. What gets the name of the path is whole then, and durable.
pub record MakesNamed {D : Type 0} (d : Ghosts D) (config : Config) (guest path : List ℕ)
    (start : D) (asked new : Openings D) (result : Result D JobFault) : Type 0 where
  pub end : D
  pub answer : Result (Unit {0}) FormatFault
  pub formats : Formats d config guest start end answer
  pub ends : EndsNaming path end asked new answer result

module _ {D : Type 0} (d : Ghosts D) (config : Config) (known : Option (List ℕ)) (Fills : D → Type 0) (image disk : List ℕ) (old new : Openings D) (result : Result D JobFault) where
  -- the configuration is out of its ranges, and nothing was asked for
  abbrev pub RefusesSizes : Type 0
  RefusesSizes = (is_valid config ≡ false) × (result ≡ Err (job.Format format.BadConfig)) × (new ≡ old)

  -- the image is unfit, and no disk was asked for
  pub record LacksImage : Type 0 where
    pub valid : is_valid config ≡ true
    pub why : JobFault
    pub is : result ≡ Err why
    pub unfit : EndsOnImage config known image old new why

  -- the image fits, and no disk can be made for this path
  pub record LacksMaking : Type 0 where
    pub valid : is_valid config ≡ true
    pub fit : IsFit config known
    pub lacks : Lacks file.Making disk (with_making (with_image old (opened image))) new result

  -- the image fits, and a disk was made with it for this path
  pub record MakesIt : Type 0 where
    pub valid : is_valid config ≡ true
    pub fit : IsFit config known
    pub guest : List ℕ
    pub is_guest : (bytes : List ℕ) → known ≡ Some bytes → guest ≡ bytes
    pub start : D
    pub is_opened : Fills start
    pub makes : MakesNamed d config guest disk start
        (with_making (with_image old (opened image)) (opened disk)) new result

  abbrev pub MakesMissing : Type 0
  MakesMissing = RefusesSizes ⊎ LacksImage ⊎ LacksMaking ⊎ MakesIt

-- HOW A DRIVE COMES BY ITS DISK

-- it stands at the path, and is handed on unless it notes another program than that of the words' image
pub record FindsThere {D : Type 0} (d : Ghosts D) (images : List ℕ → Option (List ℕ))
    (Opens : D → Type 0) (path : List ℕ) (image : Option (List ℕ)) (old new : Openings D)
    (result : Result D JobFault) : Type 0 where
  pub start : D
  pub is_opened : Opens start
  pub compares : Compares d images image start (with_disk old (opened path)) new result

-- it can't be opened, and isn't missing, or the words have no image for it
pub record LacksDisk {D : Type 0} (path : List ℕ) (image : Option (List ℕ)) (old new : Openings D)
    (result : Result D JobFault) : Type 0 where
  pub why : FileFault
  pub is : result ≡ Err (job.File file.Disk why)
  pub refuses : new ≡ with_disk old (refused path why)
  pub unmade : why ≡ fault.NotFound → image ≡ None

-- it is missing, and was made with the image of the words, where that could be
pub record MakesDisk {D : Type 0} (d : Ghosts D) (config : Config)
    (images : List ℕ → Option (List ℕ)) (Fills : D → Type 0) (path : List ℕ)
    (image : Option (List ℕ)) (old new : Openings D) (result : Result D JobFault) : Type 0 where
  pub from : List ℕ
  pub is_from : image ≡ Some from
  pub makes : MakesMissing d config (images from) Fills from path
      (with_disk old (refused path fault.NotFound)) new result

abbrev pub FindsDisk : {D : Type 0} → Ghosts D → Config → (images : List ℕ → Option (List ℕ))
    → (Opens Fills : D → Type 0) → (path : List ℕ) → (image : Option (List ℕ))
    → (old new : Openings D) → Result D JobFault → Type 0
FindsDisk d config images Opens Fills path image old new result =
    FindsThere d images Opens path image old new result ⊎ LacksDisk path image old new result ⊎ MakesDisk d config images Fills path image old new result
