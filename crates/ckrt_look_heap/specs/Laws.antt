-- Laws of the shadow, and an example.
use Rattle.std.specs.Prelude.{◌≡◌, ◌≤◌, ◌<◌, ℕ, ◌+◌, ◌/◌, Bool, false, true, List, [], ◌∷◌, ◌++◌, length, get_or, slice_get, Some}
use Rattle.std.specs.List.{AllByRecursion}
use Rattle.ckrt_look_heap.specs.declared.block.Access.{Access}
use Rattle.ckrt_look_heap.specs.declared.block.Block.{Block}
use Rattle.ckrt_look_heap.specs.declared.block.Cell.{Cell}
use Rattle.ckrt_look_heap.specs.declared.block.Cell.TheVariants as cell
use Rattle.ckrt_look_heap.specs.declared.block.Deed.{Deed}
use Rattle.ckrt_look_heap.specs.declared.block.Deed.TheVariants as deed
use Rattle.ckrt_look_calls.specs.declared.moment.Moment.{Moment}
use Rattle.ckrt_look_heap.specs.declared.finding.Finding.{Finding}
use Rattle.ckrt_look_heap.specs.declared.shadow.Note.{Note}
use Rattle.ckrt_look_heap.specs.declared.shadow.Note.TheVariants as note
use Rattle.ckrt_look_heap.specs.Shadow.{Heap, behind_all, first_one, fresh, given, given_back, head_of, is_begin, is_within, used, with_error, wrong}

-- a word of a block that the memory has
pub record IsWordOf (i : ℕ) (b : Block) (h : Heap) : Type 0 where
  pub first : b.first ≤ i
  pub last : i < b.first + b.count
  pub there : i < length h.cells

-- USING A BLOCK that was given is no error
abbrev pub GivenBlocksAreUsed : Type 0
GivenBlocksAreUsed =
    (a : Access) (b : Block) (h : Heap) → IsWordOf (a.address / 4) b h → is_within a b ≡ true
    → used a (given b h) ≡ given b h

-- USING A BLOCK that was given back is one
abbrev pub GivenBackBlocksAreTold : Type 0
GivenBackBlocksAreTold =
    (a : Access) (m : Moment) (b : Block) (h : Heap) → IsWordOf (a.address / 4) b h
    → used a (given_back m b h) ≡ with_error a (cell.GivenBack b m) (given_back m b h)

-- ONLY ERRORS ARE TOLD: each is something that was done to a word when that was told of it, and isn't allowed then

-- a block begins there
abbrev pub begins : Access → Cell → Bool
begins a (cell.Given b) = is_begin a b
begins a c = false

-- this note is an error: a word is used that may not be, or a block is given back where none begins
abbrev pub IsUnfit : Note → Heap → Access → Cell → Type 0
IsUnfit (note.Use b) h a c = (b ≡ a) × (wrong a (slice_get h.cells (a.address / 4)) ≡ Some c)
IsUnfit (note.GiveBack b t) h a c =
    (b ≡ a) × (get_or h.cells (head_of a) cell.Unknown ≡ c) × (begins a c ≡ false)
IsUnfit n h a c = ⊥

-- one of these notes is, behind those before it
pub record IsErrorOf (h : Heap) (ns : List Note) (a : Access) (c : Cell) : Type 0 where
  pub before : List Note
  pub note : Note
  pub after : List Note
  pub all : ns ≡ before ++ note ∷ after
  pub is_unfit : IsUnfit note (behind_all before h) a c

abbrev pub AreErrorsOf : Heap → List Note → List Finding → Type 0
AreErrorsOf h ns fs = AllByRecursion (λ (f : Finding). IsErrorOf h ns f.access f.cell) fs

abbrev pub OnlyErrorsAreTold : Type 0
OnlyErrorsAreTold =
    (w : Bool) (words : ℕ) (ns : List Note)
    → AreErrorsOf (fresh w words) ns (behind_all ns (fresh w words)).found.rows

-- AN EXAMPLE: a block of eight bytes from 12 on is given, stored to, given back, loaded, and given back again, and then the program ends
abbrev pub at : (step : ℕ) → Moment
at s = record { place = record { event = 0; step = s }; thread = 1 }

abbrev pub block : Block
block = record { first = 2; count = 3; bytes = 8; taken = at 0 }

abbrev pub does : (step : ℕ) → Deed → (size : ℕ) → Access
does s d n =
    record { deed = d; pc = 4096 + s; link = 8192; address = 12; size = n; moment = at s }

abbrev pub example : List Note
example =
    note.Give block ∷ note.Use (does 1 deed.Store 4) ∷ note.GiveBack (does 2 deed.Free 0) true
    ∷ note.Use (does 3 deed.Load 1) ∷ note.GiveBack (does 4 deed.Free 0) true
    ∷ note.End true ∷ []

-- the load is an error, and the second time that it is given back is one
abbrev pub TheExampleIsTold : Type 0
TheExampleIsTold =
    (behind_all example (fresh true 8)).found.rows
    ≡ first_one (does 3 deed.Load 1) (cell.GivenBack block (at 2))
    ∷ first_one (does 4 deed.Free 0) (cell.GivenBack block (at 2)) ∷ []
