-- What meets the premises of the making of a disk.
use Rattle.std.specs.Prelude.{◌≡◌, ℕ, true, false, List, Some, Result, Ok, Err}
use Rattle.ckrt_stored.specs.Layout.{is_open, is_valid}
use Rattle.ckrt_stored.specs.declared.config.Config.{Config}
use Rattle.ckrt_disk.specs.declared.disk.Disk.{Ghosts}
use Rattle.ckrt_disk.specs.declared.stopping.StoppingDisk.{StoppingDisk}
use Rattle.ckrt_cli_disk.specs.Making.{Makes}
use Rattle.ckrt_cli_reports.specs.declared.fault.JobFault.{JobFault}
use Rattle.ckrt_cli_reports.specs.declared.fault.JobFault.TheVariants.{Format}
use Rattle.ckrt_stored.specs.declared.fault.FormatFault.TheVariants.{AlreadyFormatted, BadConfig, Device, TooSmall}
use Rattle.ckrt_witness.specs.Shelf.{image_of, openings_of}
use Rattle.ckrt_witness.specs.declared.shelf.Shelf.{Shelf}

-- A making of this disk with this image, over a shelf that has both. It came to this.
pub record Made (d : Ghosts StoppingDisk) (config : Config) (guest : List ℕ) (disk : StoppingDisk)
    (result : Result (Unit {0}) JobFault) : Type 0 where
  pub sources : Shelf
  pub known : image_of sources ≡ Some guest
  pub is_disk : sources.filled ≡ Some disk
  pub after : Shelf
  pub image : List ℕ
  pub path : List ℕ
  pub makes : Makes d config (image_of sources) (λ x. sources.filled ≡ Some x) image path (openings_of sources) (openings_of after) result

-- A disk was made; one whose first gate is open stays; one fails a call; one is too short; and a configuration is out of its ranges. All keep the
-- disk model.
pub record MakingWitness (d : Ghosts StoppingDisk) (config : Config) (guest : List ℕ) : Type 0 where
  pub honest : (x : StoppingDisk) → d.is_honest x
  pub new : StoppingDisk
  pub made : Made d config guest new (Ok tt)
  pub old : StoppingDisk
  pub opened : is_open (d.content old) ≡ true
  pub stays : Made d config guest old (Err (Format AlreadyFormatted))
  pub broken : StoppingDisk
  pub fails : Made d config guest broken (Err (Format Device))
  pub short : StoppingDisk
  pub too_small : Made d config guest short (Err (Format TooSmall))
  pub other : Config
  pub invalid : is_valid other ≡ false
  pub untouched : StoppingDisk
  pub bad_config : Made d other guest untouched (Err (Format BadConfig))
