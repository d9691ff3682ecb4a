-- A writer that takes one piece behind another.
use Rattle.std.proofs.Common.{◌≡◌, ℕ, suc, ◌+◌, ◌<◌, ◌≤◌, List, [], ◌∷◌, ◌++◌, length, take, get_or, ◌∙◌, ap, sym, subst, append_assoc, Option, Some, None}
use Rattle.std.specs.Prelude.{slice_get}
use Rattle.std.proofs.lemmas.List.{append-nil, take_all, take_more}
use Rattle.std.proofs.lemmas.Grind.{flat_map-append}
use Rattle.std.specs.List.{flat_map}
use Rattle.std.specs.Io.KnownBytes.{Appends}
use Rattle.ckrt_hunt_schedules.specs.declared.row.Row.{Row}
use Rattle.ckrt_hunt_schedules.specs.declared.table.Asked.{Asked}
use Rattle.ckrt_hunt_schedules.specs.Table.{rows_text, shown_text}

-- nothing
pub appends_none : (a : Option (List ℕ)) → Appends a a []
appends_none None = tt
appends_none (Some s) = sym (append-nil s)

-- two pieces
pub appends_both : (a b c : Option (List ℕ)) (x y : List ℕ) → Appends a b x → Appends b c y → Appends a c (x ++ y)
appends_both None b c x y p q = tt
appends_both (Some s) None c x y p q = absurd p
appends_both (Some s) (Some t) None x y p q = absurd q
appends_both (Some s) (Some t) (Some u) x y p q = q ∙ ap (λ l. l ++ y) p ∙ append_assoc s x y

-- one piece more of a list of them
pub appends_more : {X : Type 0} (each : X → List ℕ) (xs : List X) (i : ℕ) (d : X) (a b c : Option (List ℕ)) → i < length xs → Appends a b (flat_map each (take i xs)) → Appends b c (each (get_or xs i d)) → Appends a c (flat_map each (take (i + 1) xs))
appends_more each xs i d a b c lt p q =
    let x = get_or xs i d in
    let one : flat_map each (take i xs ++ x ∷ []) ≡ flat_map each (take i xs) ++ each x =
    flat_map-append each (take i xs) (x ∷ []) ∙ ap (λ l. flat_map each (take i xs) ++ l) (append-nil (each x)) in
    subst (Appends a c) (sym (ap (flat_map each) (take_more xs i d lt) ∙ one)) (appends_both a b c (flat_map each (take i xs)) (each x) p q)

-- all pieces
pub appends_all : {X : Type 0} (each : X → List ℕ) (xs : List X) (i : ℕ) (a b : Option (List ℕ)) → length xs ≤ i → Appends a b (flat_map each (take i xs)) → Appends a b (flat_map each xs)
appends_all each xs i a b le p = subst (λ l. Appends a b (flat_map each l)) (take_all i xs le) p

-- no row
pub no_rows : (asked : Asked) (rows : List Row) (a : Option (List ℕ)) → Appends a a (rows_text asked rows 0)
unfolding rows_text
no_rows asked rows a = appends_none a

-- one row more
pub rows_more : (asked : Asked) (rows : List Row) (n m : ℕ) (r : Row) (a b c : Option (List ℕ)) → m ≡ suc n → slice_get rows n ≡ Some r → Appends a b (rows_text asked rows n) → Appends b c (shown_text asked rows m r) → Appends a c (rows_text asked rows m)
unfolding rows_text
rows_more asked rows n m r a b c e is p q =
    let more : Appends b c (shown_text asked rows (suc n) r) = subst (λ k. Appends b c (shown_text asked rows k r)) e q in
    rw (e, is) (appends_both a b c (rows_text asked rows n) (shown_text asked rows (suc n) r) p more)
