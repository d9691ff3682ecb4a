-- What is on a shelf is one thing.
use Rattle.std.proofs.Common.{◌≡◌, ◌<◌, ◌∙◌, inl, inr, ℕ, Bool, false, List, length, get_or, Option, Some, None, sym, subst}
use Rattle.std.proofs.lemmas.Bool.{cases_lt}
use Rattle.std.proofs.lemmas.List.{get_or_past}
use Rattle.std.specs.Prelude.{◌≢◌}
use Rattle.ckrt_disk.specs.Marked.{IsMarked}
use Rattle.ckrt_disk.specs.contracts.stopping.StoppingDiskDisk.TheImpl.{ghosts}
use Rattle.ckrt_disk.specs.declared.stopping.StoppingDisk.{StoppingDisk}
use Rattle.ckrt_cli.specs.HistoryRuns.{IsSound}
use Rattle.ckrt_witness.specs.Shelf.{StandsFor, named_by}
use Rattle.ckrt_witness.specs.declared.shelf.Shelf.{Shelf}

pub some_same : {A : Type 0} (a b : A) (o : Option A) → o ≡ Some a → o ≡ Some b → a ≡ b
some_same a b o p q = let e : Some a ≡ Some b = sym p ∙ q in cc

-- without a history a path stands for the output
pub its_output : (s : Shelf) (path : List ℕ) (disk output : StoppingDisk) → named_by s ≡ None → s.output ≡ Some output → StandsFor s path disk → disk ≡ output
its_output s path disk output none there (inl history) = let no : ◌≡◌ {A = Option (List ℕ)} None (Some path) = sym none ∙ history.0 in absurd (cc)
its_output s path disk output none there (inr other) = some_same disk output s.output other.1 there

-- with one any other path than its own does
pub other_output : (s : Shelf) (path name : List ℕ) (disk output : StoppingDisk) → named_by s ≡ Some name → path ≢ name → s.output ≡ Some output → StandsFor s path disk → disk ≡ output
other_output s path name disk output named other there (inl history) = let same : ◌≡◌ {A = Option (List ℕ)} (Some name) (Some path) = sym named ∙ history.0 in absurd (other cc)
other_output s path name disk output named other there (inr is) = some_same disk output s.output is.1 there

-- and its own path for its file
pub its_history : (s : Shelf) (name : List ℕ) (disk file : StoppingDisk) → named_by s ≡ Some name → s.history ≡ Some file → StandsFor s name disk → disk ≡ file
its_history s name disk file named there (inl history) = some_same disk file s.history history.1 there
its_history s name disk file named there (inr other) = absurd (other.0 named)

-- A DISK

-- what is marked lies within the table
is_below : (table : List Bool) (i : ℕ) → IsMarked table i → i < length table
is_below table i marked = elim (cases_lt i (length table)) as (λ _. i < length table) [
  | inl below ↦ below
  | inr past ↦ let no : get_or table i false ≡ false = get_or_past table i false past in absurd (cc)
]

-- it keeps the disk model, and has all bytes that are pending
pub sound : (disk : StoppingDisk) → IsSound ghosts disk
sound disk = record { honest = tt; inside = λ i marked. subst (λ (n : ℕ). i < n) disk.marked.table (is_below disk.marked.pending.items i marked) }
