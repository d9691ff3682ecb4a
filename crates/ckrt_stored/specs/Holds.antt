-- What an area holds, page by page.
use Rattle.std.specs.Prelude.{◌≡◌, ◌≤◌, ◌<◌, ◌+◌, ◌*◌, ℕ, false, List, [], ◌∷◌, take, drop, Result, IfOk}
use Rattle.ckrt_disk.specs.declared.disk.Disk.{Ghosts}
use Rattle.ckrt_journal.specs.Chain.{CLOSED, OPEN}
use Rattle.ckrt_memory.specs.Marks.{Memory, is_dirty}
use Rattle.ckrt_memory.specs.Pages.{page_of}
use Rattle.ckrt_stored.specs.declared.config.Config.{Config}
use Rattle.ckrt_stored.specs.declared.header.Header.{Header}
use Rattle.ckrt_stored.specs.AreaFields.{HasBytes, header_fields}
use Rattle.ckrt_stored.specs.Layout.{area_at, tables_at, journal_at}

-- the place of page p in an area, from 1 on
abbrev pub slot_at : Config → ℕ → ℕ → ℕ
slot_at c area p = area_at c area + 102400 + 4096 * p

-- the 4,096 bytes there
abbrev pub slot : Config → ℕ → ℕ → List ℕ → List ℕ
slot c area p image = take 4096 (drop (slot_at c area p) image)

-- each page of a memory stands in its slot of an area
abbrev pub AllPagesStand : Config → (area : ℕ) → (memory image : List ℕ) → Type 0
AllPagesStand c area memory image =
    (p : ℕ) → 1 ≤ p → p < c.pages → slot c area p image ≡ page_of memory p

-- A state stands after an area's gate: the fields of its header, the bytes of its tables, and each page of its memory in its slot.
pub record HasState (c : Config) (area : ℕ) (h : Header) (tables memory image : List ℕ)
    : Type 0 where
  pub fields : HasBytes image (area_at c area + 8) (header_fields h)
  pub encoded : HasBytes image (tables_at c area) tables
  pub pages : AllPagesStand c area memory image

-- page p of a memory stands in its slot, if it is clean for the area
abbrev pub IsInSlot : Config → (area p : ℕ) → Memory → (image : List ℕ) → Type 0
IsInSlot c area p memory image =
    is_dirty area p memory ≡ false → slot c area p image ≡ page_of memory.bytes p

-- each page of a memory that is clean for the area stands in its slot
abbrev pub CleanPagesStand : Config → (area : ℕ) → Memory → (image : List ℕ) → Type 0
CleanPagesStand c area memory image = (p : ℕ) → 1 ≤ p → p < c.pages → IsInSlot c area p memory image

-- the same for both areas
abbrev pub BothStand : Config → Memory → (image : List ℕ) → Type 0
BothStand c memory image = (area : ℕ) → area ≤ 1 → CleanPagesStand c area memory image

-- each page of a memory that is clean for the area stands in its slot of a disk, if that is honest
abbrev pub CleanPagesStandOn : {D : Type 0} → Ghosts D → Config → (area : ℕ) → Memory → D → Type 0
CleanPagesStandOn d c area memory disk =
    d.is_honest disk → CleanPagesStand c area memory (d.content disk)

-- a reading of an honest disk gave a memory of which each page that is clean for either area stands in its slot there
abbrev pub GivesPagesThatStand : {D X E : Type 0} → Ghosts D → Config → (old new : D) → (X → Memory)
    → Result X E → Type 0
GivesPagesThatStand d c old new memory result = d.is_honest new → IfOk result (λ x. BothStand c (memory x) (d.content old))

-- An area holds a state whole: it stands after its gate, and the gate is open.
pub record HoldsArea (c : Config) (area : ℕ) (h : Header) (tables memory image : List ℕ)
    : Type 0 where
  pub gate : HasBytes image (area_at c area) (OPEN ∷ [])
  pub state : HasState c area h tables memory image

-- the first gate of an area's journal is closed: there is no batch in it
abbrev pub HasNoBatch : Config → ℕ → List ℕ → Type 0
HasNoBatch c area image = HasBytes image (journal_at c area) (CLOSED ∷ [])
