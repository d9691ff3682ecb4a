-- What looks found in the runs of a hunt (this project's own format), after the lines of its outcomes: for each place a line that says how many runs
-- had it, by which seed first, and what that one's run had, and a line with the command that repeats it. It has the number of its row, from 1 on.
--
--     race 1: 12 of 200 runs, first by seed 3: 5+91 thread 3 stores 00006224 pc 00001038, 7+7 thread 2 stores 00006224 pc 000010c8
--         ckrt hunt races.bin --seeds 3-3 --pages 64 --harts 1 --steps 10000000 --races --keep seed-3.disk
use Rattle.std.specs.Prelude.{ℕ, zero, suc, ◌+◌, ◌-◌, ◌==◌, if◌then◌else◌, List, [], ◌∷◌, ◌++◌, length, slice_get, codes, decimal, Option, Some, None}
use Rattle.ckrt_hunt_schedules.specs.Table.{command_line, runs_text}
use Rattle.ckrt_hunt_schedules.specs.declared.table.Asked.{Asked}
use Rattle.ckrt_hunt_looks.specs.Kinds.{cycle_kind, error_kind, pair_kind}
use Rattle.ckrt_hunt_looks.specs.Races.{races_in}
use Rattle.ckrt_hunt_looks.specs.Rows.{Kind, Rows, rows_in}
use Rattle.ckrt_hunt_looks.specs.declared.row.FoundRow.{FoundRow}
use Rattle.ckrt_hunt_looks.specs.declared.rows.FoundRows.{FoundRows}
use Rattle.ckrt_hunt_looks.specs.declared.tally.RaceTally.{RaceTally}
use Rattle.ckrt_look_heap.specs.declared.finding.Finding.{Finding}

abbrev pub head_text : {F : Type 0} → Kind F → Asked → (number : ℕ) → FoundRow F → List ℕ
head_text k a number r =
    k.name ++ decimal number ++ (codes ": " ++ decimal r.count) ++ runs_text a
    ++ (codes ", first by seed " ++ decimal r.first)
    ++ codes ": "

abbrev pub row_text : {F : Type 0} → Kind F → Asked → (number : ℕ) → FoundRow F → List ℕ
row_text k a number r =
    head_text k a number r ++ k.text r.found ++ command_line a r.first

abbrev pub row_text_at : {F : Type 0} → Kind F → Asked → (number : ℕ) → Option (FoundRow F) → List ℕ
row_text_at k a number None = []
row_text_at k a number (Some r) = row_text k a number r

-- the first n rows
unfoldable pub rows_text : {F : Type 0} → Kind F → Asked → List (FoundRow F) → (n : ℕ) → List ℕ
rows_text k a rows zero = []
rows_text k a rows (suc n) = rows_text k a rows n ++ row_text_at k a (suc n) (slice_get rows n)

-- the runs that had some without a row, if there are any
abbrev pub known_others_line : {F : Type 0} → Kind F → Asked → (others : ℕ) → List ℕ
known_others_line k a others = k.others ++ decimal others ++ runs_text a ++ codes "\n"

abbrev pub others_line : {F : Type 0} → Kind F → Asked → (others : ℕ) → List ℕ
others_line k a others = if others == 0 then [] else known_others_line k a others

abbrev pub none_line : {F : Type 0} → Kind F → Asked → List ℕ
none_line k a =
    k.none ++ decimal (a.seeds.last - a.seeds.first + 1)
    ++ codes " runs; other schedules may have some\n"

abbrev pub some_text : {F : Type 0} → Kind F → Asked → Rows F → List ℕ
some_text k a t = rows_text k a t.rows (length t.rows) ++ others_line k a t.others

abbrev pub text_by : {F : Type 0} → Kind F → Asked → List (FoundRow F) → Rows F → List ℕ
text_by k a [] t = none_line k a
text_by k a (r ∷ rs) t = some_text k a t

abbrev pub found_text : {F : Type 0} → Kind F → Asked → Rows F → List ℕ
found_text k a t = text_by k a t.rows t

-- the pairs of places that raced, and then the cycles of locks
abbrev pub races_text : Asked → RaceTally → List ℕ
races_text a t =
    found_text pair_kind a (races_in t).pairs ++ found_text cycle_kind a (races_in t).cycles

-- the errors of memory
abbrev pub errors_text : Asked → FoundRows Finding → List ℕ
errors_text a t = found_text error_kind a (rows_in t)
