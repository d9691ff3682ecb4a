-- Pages that the memories of kept states share (this project's choice). A page stands in a slot, and a memory is known by the slots of its pages.
use Rattle.std.specs.Prelude.{◌≡◌, ◌<◌, ◌≤◌, ◌^◌, ℕ, Bool, true, false, List, [], ◌∷◌, ◌++◌, get_or, length, vec_capacity}
use Rattle.ckrt_calls.specs.declared.table.Tables.{Tables}
use Rattle.ckrt_calls.specs.WellFormed.{IsWellFormed}
use Rattle.ckrt_machine.specs.Steps.{State}
use Rattle.ckrt_gdb_history.specs.declared.pool.PagePool.{PagePool}
use Rattle.ckrt_gdb_history.specs.declared.position.Position.{Position}
use Rattle.ckrt_gdb_history.specs.declared.kept.Place.{Place}
use Rattle.ckrt_gdb_history.specs.Positions.{at_event}

-- THE POOL

-- the page in a slot
abbrev pub page_in : PagePool → ℕ → List ℕ
page_in p n = get_or p.slots.items n []

-- a slot that is named keeps its page
abbrev pub is_named : PagePool → ℕ → Bool
is_named p n = get_or p.named.items n false

-- each of these slots is named
abbrev pub AreNamed : PagePool → List ℕ → Type 0
AreNamed p [] = Unit {0}
AreNamed p (n ∷ ns) = (is_named p n ≡ true) × AreNamed p ns

-- the bytes of a memory, by the slots of its pages
abbrev pub gathered : PagePool → List ℕ → List ℕ
gathered p [] = []
gathered p (n ∷ ns) = page_in p n ++ gathered p ns

-- each slot has a page, and a mark whether it is named
pub record IsPool (p : PagePool) : Type 0 where
  pub marks : length p.named.items ≡ length p.slots.items
  pub room : vec_capacity p.named ≡ vec_capacity p.slots
  pub few : vec_capacity p.slots ≤ 2 ^ 32
  pub whole : (n : ℕ) → n < length p.slots.items → length (page_in p n) ≡ 4096

-- a page stands in a slot that is named
pub record StandsIn (n : ℕ) (bytes : List ℕ) (p : PagePool) : Type 0 where
  pub named : is_named p n ≡ true
  pub page : page_in p n ≡ bytes

-- what was named still is, and has the same page
pub record Keeps (old new : PagePool) : Type 0 where
  pub named : (n : ℕ) → is_named old n ≡ true → is_named new n ≡ true
  pub page : (n : ℕ) → is_named old n ≡ true → page_in new n ≡ page_in old n

-- no page was put, and no room taken
pub record HasSamePages (old new : PagePool) : Type 0 where
  pub slots : new.slots ≡ old.slots
  pub marks : length new.named.items ≡ length old.named.items
  pub room : vec_capacity new.named ≡ vec_capacity old.named

-- KEPT STATES

-- the state at a position
pub record Snapshot : Type 0 where
  pub position : Position
  pub state : State

-- the state with which they begin, and those that are kept
pub record Snapshots : Type 0 where
  pub start : State
  pub kept : List Snapshot

-- a memory by the slots of its pages, and tables
abbrev pub state_by : PagePool → List ℕ → Tables → State
state_by pool names tables = record { bytes = gathered pool names; tables = tables }

-- what is kept in a place
abbrev pub kept_in_place : PagePool → Place → Snapshot
kept_in_place pool p = record { position = p.position; state = state_by pool p.names.items p.tables }

-- in each of these
abbrev pub kept_in_places : PagePool → List Place → List Snapshot
kept_in_places pool [] = []
kept_in_places pool (p ∷ ps) = kept_in_place pool p ∷ kept_in_places pool ps

-- a place has so many pages, whose slots are named, and well-formed tables of so many harts
pub record IsPlace (pool : PagePool) (pages harts : ℕ) (p : Place) : Type 0 where
  pub named : AreNamed pool p.names.items
  pub pages_are : length p.names.items ≡ pages
  pub harts_are : p.tables.threads.hart_count ≡ harts
  pub well_formed : IsWellFormed p.tables

abbrev pub ArePlaces : PagePool → (pages harts : ℕ) → List Place → Type 0
ArePlaces pool pages harts [] = Unit {0}
ArePlaces pool pages harts (p ∷ ps) = IsPlace pool pages harts p × ArePlaces pool pages harts ps

-- the parts of kept states: the pool, the tables and slots of the beginning, the slots of the state that was kept or restored last, and places
pub record AreShared (pool : PagePool) (start : Tables) (first last : List ℕ) (places : List Place) : Type 0 where
  pub is_pool : IsPool pool
  pub first_named : AreNamed pool first
  pub last_named : AreNamed pool last
  pub count : length last ≡ length first
  pub places_are : ArePlaces pool (length first) start.threads.hart_count places
  pub well_formed : IsWellFormed start

-- a place has the state of the beginning
pub record IsAtStart (start : Tables) (first : List ℕ) (p : Place) : Type 0 where
  pub position : p.position ≡ at_event 0
  pub names : p.names.items ≡ first
  pub tables : p.tables ≡ start

abbrev pub AreAtStart : Tables → List ℕ → List Place → Type 0
AreAtStart start first [] = Unit {0}
AreAtStart start first (p ∷ ps) = IsAtStart start first p × AreAtStart start first ps

-- these are numbers of slots
abbrev pub AreSlots : PagePool → List ℕ → Type 0
AreSlots pool names = (i : ℕ) → i < length names → get_or names i 0 < length pool.named.items
