-- The rows of names: stretches of addresses, each with its text.
use Rattle.std.specs.Prelude.{◌≡◌, ◌≤◌, ◌<◌, [], List, ℕ, AllPairs}
use Rattle.ckrt_cli_names.specs.declared.names.Names.{Names}
use Rattle.ckrt_cli_names.specs.declared.rows.Row.{Row}

-- there are no names
abbrev pub HasNone : Names → Type 0
HasNone names = names.rows.items ≡ []

-- the bytes of the file that they were read from
abbrev pub bytes_of : Names → List ℕ
bytes_of names = names.bytes.items

abbrev pub rows_of : Names → List Row
rows_of names = names.rows.items

-- each row ends before those behind it begin, or right there
abbrev pub IsInOrder : List Row → Type 0
IsInOrder rows = AllPairs (λ x y. x.end ≤ y.begin) rows

-- an address lies in a row
abbrev pub LiesIn : ℕ → Row → Type 0
LiesIn address row = (row.begin ≤ address) × (address < row.end)
