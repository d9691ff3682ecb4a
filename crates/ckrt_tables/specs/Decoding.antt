-- What decoding gives, and what its readers do. A reader always answers: bytes that are no encoding give any value, and the whole is
-- encoded again and compared at the end.
use Rattle.std.specs.Prelude.{◌≡◌, ◌≤◌, ℕ, Bool, true, Option, Some, None, List, [], ◌∷◌, ◌++◌, length}
use Rattle.std.specs.List.{list_all}
use Rattle.arrayvec.specs.ArrayVec.{ArrayVec}
use Rattle.circular_buffer.specs.Buffer.{Buffer, buffer}
use Rattle.ckrt_thread.specs.Keys.{all_keys}
use Rattle.ckrt_thread.specs.Contents.{empty}
use Rattle.ckrt_calls.specs.declared.table.Tables.{Tables}
use Rattle.ckrt_calls.specs.Output.{HELD_LIMIT}
use Rattle.ckrt_tables.specs.Encoding.{encoding_of}
use Rattle.ckrt_tables.specs.Savable.{CanBeSaved}

-- THE WHOLE

-- what saved tables hold
pub record Saved : Type 0 where
  pub tables : Tables
  -- the output that the program holds, first byte first
  pub held : List ℕ

-- for a program with that many harts the bytes are the encoding, in a version, of a state that can be saved
pub record IsEncodingOf (version harts : ℕ) (bytes : List ℕ) (s : Saved) : Type 0 where
  pub savable : CanBeSaved version harts s.tables s.held
  pub encoded : bytes ≡ encoding_of version s.tables s.held

-- what the bytes decode to: the state whose encoding they are, or nothing where they are the encoding of none
abbrev pub DecodesTo : ℕ → ℕ → List ℕ → Option Saved → Type 0
DecodesTo version harts bytes (Some s) = IsEncodingOf version harts bytes s
DecodesTo version harts bytes None = (s : Saved) → IsEncodingOf version harts bytes s → ⊥

-- tables and the ring of held output, without the ring's shape
abbrev pub saved : Option (Tables × Buffer ℕ) → Option Saved
saved None = None
saved (Some found) = Some (record { tables = found.0; held = found.1.items })

-- tables and a ring of output that have nothing yet; each number is a key, without a destructor
pub record IsBegun (harts : ℕ) (tables : Tables) (held : Buffer ℕ) : Type 0 where
  pub threads : tables.threads ≡ empty all_keys harts
  pub mutexes : tables.mutexes ≡ []
  pub barriers : tables.barriers ≡ []
  pub rwlocks : tables.rwlocks ≡ []
  pub input : tables.input ≡ []
  pub output : held ≡ buffer [] HELD_LIMIT

-- A READER

-- Where the bytes begin with the encoding of a value that fits its fields, that value is found, and the bytes after it are left.
abbrev pub Finds : {X : Type 0} → (X → Bool) → (X → List ℕ) → List ℕ → X → List ℕ → Type 0
Finds {X = X} fits encoding bytes found left =
    (x : X) (rest : List ℕ) → fits x ≡ true → bytes ≡ encoding x ++ rest → (found ≡ x) × (left ≡ rest)

-- A READER OF ROWS, each of which goes onto a table at once. `LeadsTo begun rows goal`: the table that is begun is on the way to the
-- other, and has it with these rows after its own.

-- The row went after those that were there: what leads to a table by it and more, leads there by the rest.
abbrev pub GoesOn : {T R : Type 0} → (T → List R → T → Type 0) → T → R → T → Type 0
GoesOn {T = T} {R = R} LeadsTo begun row new =
    (goal : T) (more : List R) → LeadsTo begun (row ∷ more) goal → LeadsTo new more goal

-- Where the bytes begin with the encoding of that many rows, and these lead to a table, that table is reached, and the bytes after
-- the rows are left.
abbrev pub Reaches : {T R : Type 0} → (T → List R → T → Type 0) → (R → Bool) → (List R → List ℕ)
    → (ℕ → Type 0)
    → List ℕ → T → T → List ℕ → Type 0
Reaches {T = T} {R = R} LeadsTo fits encoding IsCount bytes begun reached left =
    (goal : T) (rows : List R) (rest : List ℕ) → IsCount (length rows) → list_all fits rows ≡ true → LeadsTo begun rows goal
    → bytes ≡ encoding rows ++ rest → LeadsTo reached [] goal × (left ≡ rest)

-- a vector with room for that many is on the way to another, which has these items after its own
abbrev pub FillsUp : {X : Type 0} → ℕ → ArrayVec X → List X → ArrayVec X → Type 0
FillsUp room begun items goal = (goal.items ≡ begun.items ++ items) × (length goal.items ≤ room)
