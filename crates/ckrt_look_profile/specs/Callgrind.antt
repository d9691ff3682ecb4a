-- A profile in callgrind's format (Valgrind manual, Callgrind format specification): of each stack its own steps, and what the call of it cost
-- where it was made.
use Rattle.std.specs.Prelude.{ℕ, zero, suc, ◌+◌, ◌==◌, ◌||◌, Bool, false, if◌then◌else◌, List, [], ◌∷◌, ◌++◌, length, slice_get, codes, decimal, Option, Some, None}
use Rattle.ckrt_inspect.specs.Texts.{hex_text}
use Rattle.ckrt_look_profile.specs.declared.row.Base.{Base}
use Rattle.ckrt_look_profile.specs.declared.row.Base.TheVariants as base
use Rattle.ckrt_look_profile.specs.declared.row.Row.{Row}
use Rattle.ckrt_look_profile.specs.Counts.{Counts}
use Rattle.ckrt_look_profile.specs.Shares.{total}
use Rattle.ckrt_look_profile.specs.Stacks.{together}

-- WHETHER A ROW IS ONE OF A BASE, of which so many calls are on the way at most

abbrev pub is_below : (Base → Bool) → Option Row → Bool
is_below holds None = false
is_below holds (Some r) = holds r.base

abbrev pub is_on : (rows : List Row) → (most k : ℕ) → Base → Bool
is_on rows n k (base.Thread t) = false
is_on rows zero k (base.Row j) = j == k
is_on rows (suc n) k (base.Row j) = j == k || is_below (is_on rows n k) (slice_get rows j)

-- THE STEPS OF A ROW, and of all rows that stand on it

abbrev pub with_row : (rows : List Row) → (k j : ℕ) → Row → (steps : ℕ) → ℕ
with_row rows k j r n =
    if is_on rows (length rows) k (base.Row j) then together n r.steps else n

-- with those of rows from number j on
abbrev pub whole_behind : (rows : List Row) → (k j steps : ℕ) → List Row → ℕ
whole_behind rows k j n [] = n
whole_behind rows k j n (r ∷ rs) = whole_behind rows k (j + 1) (with_row rows k j r n) rs

abbrev pub whole : (rows : List Row) → (k : ℕ) → ℕ
whole rows k = whole_behind rows k 0 0 rows

-- THE TEXT: two lines of a stack's own steps

abbrev pub own_text : Row → List ℕ
own_text r =
    codes "fn=" ++ hex_text r.entry ++ codes "\n0x" ++ hex_text r.entry ++ codes " "
    ++ decimal r.steps ++ codes "\n"

-- four lines of its call: who calls, what, how often, and with how many steps in all

abbrev pub caller_of : Option Row → ℕ
caller_of None = 0
caller_of (Some r) = r.entry

-- the address of who calls
abbrev pub caller_at : List Row → Base → ℕ
caller_at rows (base.Thread t) = 0
caller_at rows (base.Row k) = caller_of (slice_get rows k)

abbrev pub caller_text : List Row → Base → List ℕ
caller_text rows (base.Thread t) = codes "fn=thread " ++ decimal t
caller_text rows (base.Row k) = codes "fn=" ++ hex_text (caller_of (slice_get rows k))

abbrev pub called_text : Row → List ℕ
called_text r =
    codes "\ncfn=" ++ hex_text r.entry ++ (codes "\ncalls=" ++ decimal r.calls) ++ codes " 0x"
    ++ hex_text r.entry

abbrev pub cost_text : (address steps : ℕ) → List ℕ
cost_text a n = codes "\n0x" ++ hex_text a ++ codes " " ++ decimal n ++ codes "\n"

abbrev pub call_text : List Row → (steps : ℕ) → Row → List ℕ
call_text rows n r =
    caller_text rows r.base ++ called_text r ++ cost_text (caller_at rows r.base) n

-- row k, and those from number k on

abbrev pub row_text : List Row → (k : ℕ) → Row → List ℕ
row_text rows k r = own_text r ++ call_text rows (whole rows k) r

abbrev pub rows_text : List Row → (k : ℕ) → List Row → List ℕ
rows_text rows k [] = []
rows_text rows k (r ∷ rs) = row_text rows k r ++ rows_text rows (k + 1) rs

abbrev pub HEADER : List ℕ
HEADER =
    codes "# callgrind format\nversion: 1\ncreator: ckrt\npositions: instr\nevents: Steps\nsummary: "

abbrev pub start_text : (all : ℕ) → List ℕ
start_text all = HEADER ++ decimal all ++ codes "\n\nfl=???\n"

-- steps on stacks for which no row was left
abbrev pub rest_line : ℕ → List ℕ
rest_line n = codes "fn=others\n0x0 " ++ decimal n ++ codes "\n"

abbrev pub rest_text : ℕ → List ℕ
rest_text n = if n == 0 then [] else rest_line n

-- all of it, with so many steps in all, and so many on stacks without a row
abbrev pub stacks_text : (all : ℕ) → List Row → (unkept : ℕ) → List ℕ
stacks_text all rows n = start_text all ++ rows_text rows 0 rows ++ rest_text n

abbrev pub callgrind_text : Counts → List ℕ
callgrind_text c = stacks_text (total c) c.stacks.rows c.stacks.unkept
