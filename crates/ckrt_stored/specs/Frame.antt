-- Which bytes of an image don't matter to what it recovers to, and how a checkpoint takes over.
use Rattle.std.specs.Prelude.{◌≡◌, ◌≤◌, ◌<◌, ◌+◌, ◌-◌, ◌⊎◌, ℕ, true, false, List, Ok}
use Rattle.ckrt_disk.specs.Disk.{IsWithin}
use Rattle.ckrt_disk.specs.Frame.{IsSameOutside}
use Rattle.ckrt_journal.specs.Chain.{journal_bytes}
use Rattle.ckrt_tables.specs.Decoding.{Saved}
use Rattle.ckrt_tables.specs.Encoding.{AREA_VERSION, encoding_of}
use Rattle.ckrt_tables.specs.Savable.{CanBeSaved}
use Rattle.ckrt_stored.specs.declared.area.Area.{Area}
use Rattle.ckrt_stored.specs.declared.config.Config.{Config}
use Rattle.ckrt_stored.specs.Areas.{checked_area}
use Rattle.ckrt_stored.specs.Layout.{area_at, area_size, header_of, is_open, journal_at, journal_of, memory_of, size_needed, tables_of}
use Rattle.ckrt_stored.specs.Superblock.{note_of, superblock_of}
use Rattle.ckrt_stored.specs.Recovery.{Recovered, Recovers, is_end_in_range, unreplayed}

-- the bytes of an area and of its journal
abbrev pub BelongsTo : Config → ℕ → ℕ → Type 0
BelongsTo c area i =
    IsWithin (area_at c area) (area_size c) i ⊎ IsWithin (journal_at c area) c.journal i

-- Frame: the bytes of the area that isn't in use, and of its journal, don't matter where its gate isn't open.
abbrev pub IsFramed : Type 0
IsFramed =
    (before image : List ℕ) (r : Recovered) → Recovers before (Ok r)
    → IsSameOutside (BelongsTo r.config (1 - r.area)) before image
    → (header_of r.config (1 - r.area) image).is_open ≡ false → Recovers image (Ok r)

-- the offsets after the bytes that the configuration needs
abbrev pub IsSpare : Config → ℕ → Type 0
IsSpare c i = size_needed c ≤ i

-- Spare: the bytes after those that the configuration needs don't matter.
abbrev pub IsSpareFree : Type 0
IsSpareFree =
    (before image : List ℕ) (r : Recovered) → Recovers before (Ok r)
    → IsSameOutside (IsSpare r.config) before image → Recovers image (Ok r)

-- Note: the note of a disk's program stands in its first 72 bytes, and no other byte matters to it.
abbrev pub IsNoteApart : Type 0
IsNoteApart =
    (before image : List ℕ) → IsSameOutside (λ i. 72 ≤ i) before image
    → note_of image ≡ note_of before

-- An area holds a state whole, and its journal has no batch.
pub record HoldsState (c : Config) (area : Area) (memory : List ℕ) (s : Saved) (image : List ℕ)
    : Type 0 where
  pub index : area.index ≤ 1
  -- its header is open, and its fields are in their ranges
  pub header : header_of c area.index image ≡ area.header
  pub opened : area.header.is_open ≡ true
  pub checked : checked_area area ≡ Ok area
  pub end : is_end_in_range area s.held ≡ true
  -- its tables are the encoding of a state that can be saved
  pub savable : CanBeSaved area.header.version c.harts s.tables s.held
  pub tables : tables_of c area image ≡ encoding_of area.header.version s.tables s.held
  -- its pages are the memory
  pub pages : memory_of c area.index image ≡ memory
  -- the first gate of its journal isn't open
  pub no_batch : is_open (journal_bytes (journal_of c area.index area.header.version) image) ≡ false

-- the other area isn't open, or it is of a lower generation
abbrev pub IsNewest : Config → Area → List ℕ → Type 0
IsNewest c area image =
    (header_of c (1 - area.index) image).is_open ≡ true
    → (header_of c (1 - area.index) image).generation < area.header.generation

-- Switch: an image recovers to the state that its newest area holds.
abbrev pub IsSwitched : Type 0
IsSwitched =
    (c : Config) (area : Area) (memory : List ℕ) (s : Saved) (image : List ℕ)
    → superblock_of image ≡ Ok c → HoldsState c area memory s image → IsNewest c area image
    → Recovers image (Ok (unreplayed c area memory s))

-- CHECKPOINTS

-- what was recovered, in the other area, of one generation more and the latest version, and no event is journaled after it
abbrev pub in_other_area : Recovered → Recovered
in_other_area r =
    record r {
      area = 1 - r.area;
      generation = r.generation + 1;
      journal = journal_of r.config (1 - r.area) AREA_VERSION;
    }
