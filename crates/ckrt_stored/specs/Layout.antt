-- Where things lie on a disk, and the fields of an area's header (this project's own format). Numbers have their lowest byte first.
use Rattle.std.specs.Prelude.{◌+◌, ◌-◌, ◌*◌, ◌%◌, ◌&&◌, ◌==◌, ℕ, Bool, List, take, drop, slice_index, nat_le, nat_eq, ◌^◌}
use Rattle.byteorder.specs.Endian.{little_number}
use Rattle.ckrt_journal.specs.Chain.{OPEN}
use Rattle.ckrt_journal.specs.declared.journal.Journal.{Journal}
use Rattle.ckrt_stored.specs.declared.area.Area.{Area}
use Rattle.ckrt_stored.specs.declared.config.Config.{Config}
use Rattle.ckrt_stored.specs.declared.header.Header.{Header}

-- CONFIGURATIONS

-- the ranges of a configuration (this project's choice)
abbrev pub is_valid : Config → Bool
is_valid c =
    (nat_le 16 c.pages && nat_le c.pages 65536)
    && ((nat_le 1 c.harts && nat_le c.harts 8)
    && (c.journal % 4096 == 0 && (nat_le 4096 c.journal && nat_le c.journal 1048576)))

-- the bytes of the guest's memory: page 0 has none
abbrev pub memory_size : Config → ℕ
memory_size c = 4096 * (c.pages - 1)

-- PLACES

-- an area: 4,096 bytes for its header, 98,304 for its tables, and a place for each page
abbrev pub area_size : Config → ℕ
area_size c = 102400 + 4096 * c.pages

-- the superblock, two areas, two journals
abbrev pub size_needed : Config → ℕ
size_needed c = 4096 + 2 * area_size c + 2 * c.journal

-- area 0 or 1, which begins with its gate
abbrev pub area_at : Config → ℕ → ℕ
area_at c area = 4096 + area * area_size c

abbrev pub tables_at : Config → ℕ → ℕ
tables_at c area = area_at c area + 4096

-- the guest's memory from page 1 on: page p of an area lies 102,400 + 4096·p after its beginning
abbrev pub memory_at : Config → ℕ → ℕ
memory_at c area = area_at c area + 106496

-- the journal of an area
abbrev pub journal_at : Config → ℕ → ℕ
journal_at c area = 4096 + 2 * area_size c + area * c.journal

-- the same at its first gate, where the area is of a version, which is the journal's too
abbrev pub journal_of : Config → (area version : ℕ) → Journal
journal_of c area version =
    record { at = journal_at c area; size = c.journal; next_gate = 0; version = version }

-- FIELDS

-- the number in n bytes from an offset on
unfoldable pub number_at : (n at : ℕ) → List ℕ → ℕ
number_at n at bytes = little_number n (take n (drop at bytes))

-- the counts of events and of output bytes stay below this
abbrev pub COUNT_LIMIT : ℕ
COUNT_LIMIT = 2 ^ 62

-- a gate is open exactly where it is the byte A5
abbrev pub is_open : List ℕ → Bool
is_open bytes = nat_eq (slice_index bytes 0) OPEN

-- the gate at an offset is open
abbrev pub is_gate_open : ℕ → List ℕ → Bool
is_gate_open at image = is_open (drop at image)

-- the first 40 bytes of an area's header
abbrev pub header_in : List ℕ → Header
header_in block = record {
  is_open = is_open block;
  generation = number_at 8 8 block;
  count = number_at 8 16 block;
  offset = number_at 8 24 block;
  tables = number_at 4 32 block;
  version = number_at 4 36 block;
}

abbrev pub header_of : Config → ℕ → List ℕ → Header
header_of c area image = header_in (take 40 (drop (area_at c area) image))

-- WHAT AN AREA HOLDS

-- the bytes of its tables, as many as its header says
abbrev pub tables_of : Config → Area → List ℕ → List ℕ
tables_of c area image = take area.header.tables (drop (tables_at c area.index) image)

-- the guest's memory
abbrev pub memory_of : Config → ℕ → List ℕ → List ℕ
memory_of c area image = take (memory_size c) (drop (memory_at c area) image)
