-- What reading an area gives.
use Rattle.std.specs.Prelude.{◌≡◌, ℕ, List, Some, None, Result, Ok, Err}
use Rattle.circular_buffer.specs.Buffer.{Buffer}
use Rattle.ckrt_memory.specs.Marks.{Memory}
use Rattle.ckrt_calls.specs.declared.table.Tables.{Tables}
use Rattle.ckrt_tables.specs.Decoding.{DecodesTo}
use Rattle.ckrt_tables.specs.Savable.{CanBeSaved}
use Rattle.ckrt_stored.specs.declared.area.Area.{Area}
use Rattle.ckrt_stored.specs.declared.config.Config.{Config}
use Rattle.ckrt_stored.specs.declared.area_fault.AreaFault.{AreaFault}
use Rattle.ckrt_stored.specs.declared.area_fault.AreaFault.TheVariants.{Device, Damaged, GenerationsUsed, OutOfMemory, Version}
use Rattle.ckrt_stored.specs.Layout.{memory_of, tables_of}

-- The area's tables decode to these tables and this held output, and its pages are this memory.
pub record HoldsParts (c : Config) (area : Area) (image memory : List ℕ) (tables : Tables)
    (held : List ℕ) : Type 0 where
  pub decodes : DecodesTo area.header.version c.harts (tables_of c area image)
      (Some (record { tables = tables; held = held }))
  pub pages : memory ≡ memory_of c area.index image

-- What the answer says of the area: what it holds; or that its tables decode to nothing, exactly where Damaged is answered. The other
-- faults say nothing of the bytes.
abbrev pub ReadsArea : Config → Area → List ℕ → Result (Memory × Tables × Buffer ℕ) AreaFault
    → Type 0
ReadsArea c area image (Ok r) = HoldsParts c area image r.0.bytes r.1 r.2.items
ReadsArea c area image (Err Damaged) =
    DecodesTo area.header.version c.harts (tables_of c area image) None
ReadsArea c area image (Err Device) = Unit {0}
ReadsArea c area image (Err GenerationsUsed) = Unit {0}
ReadsArea c area image (Err OutOfMemory) = Unit {0}
ReadsArea c area image (Err Version) = Unit {0}

-- these tables and this held output can be saved in the version of the area, for the configuration's harts
abbrev pub CanBeSavedIn : Config → Area → Tables → List ℕ → Type 0
CanBeSavedIn c area tables held = CanBeSaved area.header.version c.harts tables held
