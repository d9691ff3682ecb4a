-- Which of the two areas is in use (this project's own format).
use Rattle.std.specs.Prelude.{◌≡◌, ◌⊎◌, ◌≤◌, ◌<◌, ◌||◌, ◌&&◌, not, ℕ, Bool, List, nat_lt, nat_le, nat_eq, if◌then◌else◌, Result, Ok, Err}
use Rattle.ckrt_tables.specs.Encoding.{TABLES_ROOM}
use Rattle.ckrt_stored.specs.declared.config.Config.{Config}
use Rattle.ckrt_stored.specs.declared.area_fault.AreaFault.{AreaFault}
use Rattle.ckrt_stored.specs.declared.area_fault.AreaFault.TheVariants.{Version, Damaged}
use Rattle.ckrt_stored.specs.declared.header.Header.{Header}
use Rattle.ckrt_stored.specs.declared.area.Area.{Area}
use Rattle.ckrt_stored.specs.Layout.{COUNT_LIMIT, header_of}

-- the fields are in range: a state of fewer than 2^62 events and bytes of output
abbrev pub is_in_range : Header → Bool
is_in_range h = nat_lt h.count COUNT_LIMIT && (nat_lt h.offset COUNT_LIMIT && nat_le h.tables TABLES_ROOM)

-- the versions of tables that there are
abbrev pub is_known_version : ℕ → Bool
is_known_version version = nat_eq version 1 || nat_eq version 2

-- the first that applies: generation 0, an unknown version, a field out of range
abbrev pub checked_area : Area → Result Area AreaFault
checked_area area =
    if nat_eq area.header.generation 0 then Err Damaged
    else if not (is_known_version area.header.version) then Err Version
    else if is_in_range area.header then Ok area
    else Err Damaged

-- the open area; of two open ones that of the greater generation
abbrev pub newest_area : Header → Header → Result Area AreaFault
newest_area first second =
    if not first.is_open && not second.is_open then Err Damaged
    else if first.is_open && second.is_open && nat_eq first.generation second.generation then Err Damaged
    else if first.is_open && (not second.is_open || nat_lt second.generation first.generation) then checked_area (record { index = 0; header = first })
    else checked_area (record { index = 1; header = second })

-- the area of an image that is in use
abbrev pub area_of : Config → List ℕ → Result Area AreaFault
area_of c image = newest_area (header_of c 0 image) (header_of c 1 image)

-- an area that was picked: it is one of the two, and its numbers are in their ranges
pub record IsPicked (area : Area) : Type 0 where
  pub index : area.index ≤ 1
  pub version : (area.header.version ≡ 1) ⊎ (area.header.version ≡ 2)
  pub count : area.header.count < COUNT_LIMIT
  pub offset : area.header.offset < COUNT_LIMIT
  pub tables : area.header.tables ≤ TABLES_ROOM
