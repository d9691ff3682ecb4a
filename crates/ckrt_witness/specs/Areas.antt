-- What meets the premises of the laws of the two areas of a disk.
use Rattle.std.specs.Prelude.{◌≡◌, ◌≢◌, ◌-◌, ℕ, true, false, List, Ok}
use Rattle.ckrt_disk.specs.Frame.{IsSameOutside}
use Rattle.ckrt_tables.specs.Decoding.{Saved}
use Rattle.ckrt_stored.specs.declared.area.Area.{Area}
use Rattle.ckrt_stored.specs.declared.config.Config.{Config}
use Rattle.ckrt_stored.specs.Layout.{header_of}
use Rattle.ckrt_stored.specs.Frame.{BelongsTo, HoldsState, IsNewest}
use Rattle.ckrt_stored.specs.Recovery.{Recovered, Recovers}
use Rattle.ckrt_stored.specs.Superblock.{superblock_of}

-- An image that recovers, and another one, which has other bytes in the area that isn't in use. The gate of that isn't open.
pub record FrameWitness (before image : List ℕ) : Type 0 where
  pub recovered : Recovered
  pub recovers : Recovers before (Ok recovered)
  pub outside : IsSameOutside (BelongsTo recovered.config (1 - recovered.area)) before image
  pub shut : (header_of recovered.config (1 - recovered.area) image).is_open ≡ false
  pub other : image ≢ before

-- An image whose newest area holds a state, with no batch in its journal. The other area is open, too.
pub record SwitchWitness (image : List ℕ) : Type 0 where
  pub config : Config
  pub superblock : superblock_of image ≡ Ok config
  pub area : Area
  pub memory : List ℕ
  pub saved : Saved
  pub holds : HoldsState config area memory saved image
  pub newest : IsNewest config area image
  pub both : (header_of config (1 - area.index) image).is_open ≡ true
