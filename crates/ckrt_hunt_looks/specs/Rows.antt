-- What looks found in the runs of seeds, counted.
use Rattle.std.specs.Prelude.{ℕ, ◌+◌, nat_lt, min, Bool, ◌||◌, not, if◌then◌else◌, List, [], ◌∷◌, ◌++◌, length}
use Rattle.std.specs.List.{list_any}
use Rattle.ckrt_hunt_looks.specs.declared.row.FoundRow.{FoundRow}
use Rattle.ckrt_hunt_looks.specs.declared.rows.FoundRows.{FoundRows}
use Rattle.ckrt_hunt_looks.specs.declared.row.TheConstants.{FOUND_ROWS}

-- A KIND of what is found: which of these are at one place, the words before the numbers of its rows, and of runs that had others, and of runs of
-- which none had one, and the line of one
pub record Kind (F : Type 0) : Type 0 where
  pub is_at : F → F → Bool
  pub name : List ℕ
  pub others : List ℕ
  pub none : List ℕ
  pub text : F → List ℕ

-- one more, as far as 64 bits count
abbrev pub one_more : ℕ → ℕ
one_more n = min (n + 1) 18446744073709551615

-- the places that have a row, and how many runs had some that no row tells
pub record Rows (F : Type 0) : Type 0 where
  pub rows : List (FoundRow F)
  pub others : ℕ

abbrev pub rows_in : {F : Type 0} → FoundRows F → Rows F
rows_in t = record { rows = t.rows.items; others = t.others }

abbrev pub no_rows : {F : Type 0} → Rows F
no_rows = record { rows = []; others = 0 }

-- it has the place of the row
abbrev pub has_place : {F : Type 0} → Kind F → F → FoundRow F → Bool
has_place k x r = k.is_at x r.found

-- the first row with its place counts one run more
abbrev pub counted : {F : Type 0} → Kind F → F → List (FoundRow F) → List (FoundRow F)
counted k x [] = []
counted k x (r ∷ rs) =
    if has_place k x r then record r { count = one_more r.count } ∷ rs else r ∷ counted k x rs

-- the row of one that the run of this seed had first
abbrev pub first_row : {F : Type 0} → (seed : ℕ) → F → FoundRow F
first_row seed x = record { found = x; count = 1; first = seed }

-- a place gets a row as long as there is one left
abbrev pub with_row : {F : Type 0} → (seed : ℕ) → F → List (FoundRow F) → List (FoundRow F)
with_row seed x rs = if nat_lt (length rs) FOUND_ROWS then rs ++ first_row seed x ∷ [] else rs

-- a run had one
abbrev pub with_found : {F : Type 0} → Kind F → (seed : ℕ) → F → List (FoundRow F) → List (FoundRow F)
with_found k seed x rs =
    if list_any (has_place k x) rs then counted k x rs else with_row seed x rs

-- and so with each that it had, which a look tells once
abbrev pub with_all : {F : Type 0} → Kind F → (seed : ℕ) → List F → List (FoundRow F) → List (FoundRow F)
with_all k seed [] rs = rs
with_all k seed (x ∷ xs) rs = with_all k seed xs (with_found k seed x rs)

-- a run had some that no row tells: one of these, or so many that the look doesn't tell
abbrev pub lacks_row : {F : Type 0} → Kind F → List (FoundRow F) → F → Bool
lacks_row k rs x = not (list_any (has_place k x) rs)

abbrev pub has_others : {F : Type 0} → Kind F → List (FoundRow F) → List F → (more : ℕ) → Bool
has_others k rs xs n = nat_lt 0 n || list_any (lacks_row k rs) xs

-- one run more, that of this seed, which had these, and so many at places beside theirs
abbrev pub with_run : {F : Type 0} → Kind F → (seed : ℕ) → List F → (more : ℕ) → Rows F → Rows F
with_run k seed xs n t =
    let rs = with_all k seed xs t.rows in
    record { rows = rs; others = if has_others k rs xs n then one_more t.others else t.others }
