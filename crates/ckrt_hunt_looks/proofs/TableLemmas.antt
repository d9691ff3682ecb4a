-- A writer that takes the lines of rows.
use Rattle.std.proofs.Common.{◌≡◌, ℕ, suc, List, subst, Option, Some}
use Rattle.std.specs.Prelude.{slice_get}
use Rattle.std.specs.Io.KnownBytes.{Appends}
use Rattle.ckrt_hunt_schedules.proofs.AppendLemmas.{appends_both, appends_none}
use Rattle.ckrt_hunt_schedules.specs.declared.table.Asked.{Asked}
use Rattle.ckrt_hunt_looks.specs.declared.row.FoundRow.{FoundRow}
use Rattle.ckrt_hunt_looks.specs.FoundTable.{row_text, rows_text}
use Rattle.ckrt_hunt_looks.specs.Rows.{Kind}

-- no row
pub no_rows : {F : Type 0} (k : Kind F) (asked : Asked) (rows : List (FoundRow F)) (a : Option (List ℕ)) → Appends a a (rows_text k asked rows 0)
unfolding rows_text
no_rows k asked rows a = appends_none a

-- one row more
pub rows_more : {F : Type 0} (k : Kind F) (asked : Asked) (rows : List (FoundRow F)) (n m : ℕ) (r : FoundRow F) (a b c : Option (List ℕ)) → m ≡ suc n → slice_get rows n ≡ Some r → Appends a b (rows_text k asked rows n) → Appends b c (row_text k asked m r) → Appends a c (rows_text k asked rows m)
unfolding rows_text
rows_more k asked rows n m r a b c e is p q =
    let more : Appends b c (row_text k asked (suc n) r) = subst (λ j. Appends b c (row_text k asked j r)) e q in
    rw (e, is) (appends_both a b c (rows_text k asked rows n) (row_text k asked (suc n) r) p more)
