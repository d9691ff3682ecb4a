-- What writing an area does: a checkpoint into the area that isn't in use.
use Rattle.std.specs.Prelude.{◌≡◌, ◌⊎◌, ◌+◌, ◌-◌, ◌^◌, ℕ, zero, suc, Bool, true, false, if◌then◌else◌, List, length, Result, Ok, Err, OnOk, IfErr, ◌↔◌}
use Rattle.ckrt_disk.specs.Disk.{IsWithin}
use Rattle.ckrt_disk.specs.Frame.{AtAnyMoment, IsSameOutside, WritesWithin}
use Rattle.ckrt_disk.specs.declared.disk.Disk.{Ghosts}
use Rattle.ckrt_memory.specs.Marks.{Memory, is_dirty}
use Rattle.ckrt_tables.specs.Encoding.{AREA_VERSION}
use Rattle.ckrt_stored.specs.declared.config.Config.{Config}
use Rattle.ckrt_stored.specs.declared.area_fault.AreaFault.{AreaFault}
use Rattle.ckrt_stored.specs.declared.area_fault.AreaFault.TheVariants.{Device, GenerationsUsed}
use Rattle.ckrt_stored.specs.declared.header.Header.{Header}
use Rattle.ckrt_stored.specs.declared.save_point.SavePoint.{SavePoint}
use Rattle.ckrt_stored.specs.Answers.{is_device}
use Rattle.ckrt_stored.specs.Holds.{HasState, HoldsArea, HasNoBatch}
use Rattle.ckrt_stored.specs.Layout.{area_at, area_size, is_gate_open, journal_at, memory_at, memory_size}

-- THE STATE THAT IS WRITTEN

-- the area that isn't in use
abbrev pub other_area : SavePoint → ℕ
other_area point = 1 - point.area

-- the header that it gets: one generation more
abbrev pub next_header : SavePoint → List ℕ → Header
next_header point tables = record {
  is_open = true;
  generation = point.generation + 1;
  count = point.count;
  offset = point.offset;
  tables = length tables;
  version = AREA_VERSION;
}

-- WHERE IT WRITES: in the area, and the first byte of its journal

abbrev pub GateAt : Config → ℕ → ℕ → Type 0
GateAt c area = IsWithin (area_at c area) 1

-- all but the gate
abbrev pub FillsAt : Config → ℕ → ℕ → Type 0
FillsAt c area i =
    IsWithin (area_at c area + 1) (area_size c - 1) i ⊎ IsWithin (journal_at c area) 1 i

abbrev pub WritesAt : Config → ℕ → ℕ → Type 0
WritesAt c area i = GateAt c area i ⊎ FillsAt c area i

-- WHAT A STOP OF IT MAY LEAVE, of a disk that read `content` before it

-- A gate was open, and it alone isn't as before.
pub record IsClosing (at : ℕ) (content image : List ℕ) : Type 0 where
  pub was_open : is_gate_open at content ≡ true
  pub outside : IsSameOutside (IsWithin at 1) content image

-- The gate of the area is closed, and all but the area and the first byte of its journal is as before.
pub record IsFilling (c : Config) (area : ℕ) (content image : List ℕ) : Type 0 where
  pub gate : is_gate_open (area_at c area) image ≡ false
  pub outside : IsSameOutside (WritesAt c area) content image

-- The area holds the state whole, its journal has no batch, and all else is as before.
pub record HasSaved (c : Config) (area : ℕ) (h : Header) (tables memory content image : List ℕ)
    : Type 0 where
  pub holds : HoldsArea c area h tables memory image
  pub no_batch : HasNoBatch c area image
  pub outside : IsSameOutside (WritesAt c area) content image

-- what a stop of a checkpoint may leave: one of the three
abbrev pub IsSaving : Config → SavePoint → (tables memory content image : List ℕ) → Type 0
IsSaving c point tables memory content image =
    IsClosing (area_at c (other_area point)) content image
    ⊎ IsFilling c (other_area point) content image
    ⊎ HasSaved c (other_area point) (next_header point tables) tables memory content image

-- nothing is pending on the disk
abbrev pub IsDurable : {D : Type 0} → Ghosts D → D → Type 0
IsDurable d disk = (i : ℕ) → ¬ d.pending disk i

-- of an honest disk on which nothing was pending a stop at any moment since old leaves no more than one of the three
abbrev pub LeavesSaving : {D : Type 0} → Ghosts D → Config → SavePoint → (tables : List ℕ) → Memory
    → (old new : D) → Type 0
LeavesSaving d c point tables memory old new =
    IsDurable d old → AtAnyMoment d old new (IsSaving c point tables memory.bytes (d.content old))

-- an honest disk has the state whole in the other area, no batch in that area's journal, and all else as before
abbrev pub IsSavedOn : {D : Type 0} → Ghosts D → Config → SavePoint → (tables : List ℕ) → Memory
    → (old new : D) → Type 0
IsSavedOn d c point tables memory old new =
    d.is_honest new → HasSaved c (other_area point) (next_header point tables) tables memory.bytes (d.content old) (d.content new)

-- ITS PARTS

-- closing the gate: a write and a sync where it was open
abbrev pub calls_of_closing : {X : Type 0} → Result Bool X → ℕ
calls_of_closing (Ok true) = 2
calls_of_closing (Ok false) = 0
calls_of_closing (Err e) = 0

-- how many pages are written for page p: itself, where it is dirty for the area
abbrev pub one_if_dirty : (area p : ℕ) → Memory → ℕ
one_if_dirty area p m = if is_dirty area p m then 1 else 0

-- how many of the pages 1 to n are dirty for the area
abbrev pub dirty_count : (area n : ℕ) → Memory → ℕ
dirty_count area zero m = 0
dirty_count area (suc n) m = dirty_count area n m + one_if_dirty area (suc n) m

-- how many pages of the memory are dirty for the area
abbrev pub dirty_pages : Config → (area : ℕ) → Memory → ℕ
dirty_pages c area m = dirty_count area (c.pages - 1) m

-- where the pages lie
abbrev pub PagesAt : Config → ℕ → ℕ → Type 0
PagesAt c area = IsWithin (memory_at c area) (memory_size c)

-- what stands after the gate when it is opened
pub record IsFilled (c : Config) (area : ℕ) (h : Header) (tables memory content : List ℕ)
    : Type 0 where
  pub state : HasState c area h tables memory content
  pub no_batch : HasNoBatch c area content

-- ITS CALLS

-- a write and a sync where the gate was open; then the journal's first gate, the tables, each dirty page, the header's fields, a sync,
-- the gate, a sync
abbrev pub calls_of : {X : Type 0} → (dirty : ℕ) → (was_open : Bool) → Result X AreaFault → ℕ
calls_of dirty was_open (Ok x) = (if was_open then 2 else 0) + dirty + 6
calls_of dirty was_open (Err e) = 0

-- The calls of the disk: writes in the area and the first byte of its journal, as many as it takes.
pub record IsAreaWrite {D X : Type 0} (d : Ghosts D) (c : Config) (area : ℕ) (memory : Memory)
    (old new : D) (result : Result X AreaFault) : Type 0 where
  -- whether the gate of the area was open
  pub was_open : Bool
  -- which is what the read gave
  pub read : d.is_honest new
      → OnOk result (was_open ≡ is_gate_open (area_at c area) (d.content old))
  pub within : WritesWithin d (WritesAt c area)
      (calls_of (dirty_pages c area memory) was_open result) old new (is_device result)

-- the same, into the area that isn't in use
abbrev pub IsOtherAreaWrite : {D X : Type 0} → Ghosts D → Config → SavePoint → Memory
    → (old new : D) → Result X AreaFault → Type 0
IsOtherAreaWrite d c point memory old new result =
    IsAreaWrite d c (other_area point) memory old new result

-- the last generation was in use: that is the answer, before any call of the disk; else Device is the only error
pub record IsRefusedExactly {D X : Type 0} (point : SavePoint) (old new : D)
    (result : Result X AreaFault) : Type 0 where
  pub exact : result ≡ Err GenerationsUsed ↔ point.generation ≡ 2 ^ 64 - 1
  pub unchanged : result ≡ Err GenerationsUsed → new ≡ old
  pub errors : IfErr result (λ e. (e ≡ Device) ⊎ (e ≡ GenerationsUsed))
