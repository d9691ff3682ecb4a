-- What a freshly formatted disk has (this project's own format).
use Rattle.std.specs.Prelude.{◌≡◌, ◌+◌, ◌-◌, ℕ, true, List, [], ◌∷◌, ◌++◌, replicate, length}
use Rattle.ckrt_journal.specs.Chain.{CLOSED, OPEN}
use Rattle.ckrt_tables.specs.Fresh.{fresh_bytes}
use Rattle.ckrt_tables.specs.Encoding.{AREA_VERSION}
use Rattle.ckrt_stored.specs.declared.config.Config.{Config}
use Rattle.ckrt_stored.specs.declared.header.Header.{Header}
use Rattle.ckrt_stored.specs.AreaFields.{HasBytes, header_fields}
use Rattle.ckrt_stored.specs.Layout.{memory_size, area_at, tables_at, memory_at, journal_at}
use Rattle.ckrt_stored.specs.Superblock.{superblock_fields}

-- how many bytes the saved tables of a program have before its first event
abbrev pub FRESH_TABLES_SIZE : ℕ
FRESH_TABLES_SIZE = 176

-- the header of area 0 before the first event
abbrev pub fresh_header : Header
fresh_header =
    record {
      is_open = true;
      generation = 1;
      count = 0;
      offset = 0;
      tables = FRESH_TABLES_SIZE;
      version = AREA_VERSION;
    }

-- the guest's memory before the first event: the image, and zeros after it
abbrev pub fresh_memory : Config → List ℕ → List ℕ
fresh_memory c image = image ++ replicate (memory_size c - length image) 0

-- area 0 is open, and has this memory and no event
pub record HasFreshArea (c : Config) (memory content : List ℕ) : Type 0 where
  pub gate : HasBytes content (area_at c 0) (OPEN ∷ [])
  pub header : HasBytes content (area_at c 0 + 8) (header_fields fresh_header)
  pub tables : HasBytes content (tables_at c 0) (fresh_bytes c.pages)
  pub pages : HasBytes content (memory_at c 0) memory

-- all that a freshly formatted disk has besides its first gate
pub record IsFresh (c : Config) (guest memory content : List ℕ) : Type 0 where
  pub area : HasFreshArea c memory content
  pub journal : HasBytes content (journal_at c 0) (CLOSED ∷ [])
  pub other_area : HasBytes content (area_at c 1) (CLOSED ∷ [])
  pub superblock : HasBytes content 8 (superblock_fields c guest)

-- a disk whose area 0 has some memory and no event has all of it now
abbrev pub BecomesFresh : Config → (guest old new : List ℕ) → Type 0
BecomesFresh c guest old new =
    (memory : List ℕ) → length memory ≡ memory_size c → HasFreshArea c memory old
    → IsFresh c guest memory new
