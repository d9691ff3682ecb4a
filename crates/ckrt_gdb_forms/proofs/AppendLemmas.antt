-- A writer that takes one piece behind another.
use Rattle.std.proofs.Common.{◌≡◌, ℕ, ◌+◌, ◌<◌, ◌≤◌, List, [], ◌∷◌, ◌++◌, length, take, get_or, ◌∙◌, ap, sym, subst, append_assoc, Option, Some, None, Ok, Err}
use Rattle.std.proofs.lemmas.List.{append-nil, take_all, take_more}
use Rattle.std.proofs.lemmas.Grind.{flat_map-append}
use Rattle.std.specs.List.{flat_map}
use Rattle.std.specs.Result.{OnOk}
use Rattle.std.specs.Io.KnownBytes.{Appends, Keeps}
use Rattle.std.specs.declared.result.Result.{Result}

-- nothing
pub appends_none : (a : Option (List ℕ)) → Appends a a []
appends_none None = tt
appends_none (Some s) = sym (append-nil s)

-- two pieces
pub appends_both : (a b c : Option (List ℕ)) (x y : List ℕ) → Appends a b x → Appends b c y → Appends a c (x ++ y)
appends_both None b c x y p q = tt
appends_both (Some s) None c x y p q = absurd p
appends_both (Some s) (Some t) None x y p q = absurd q
appends_both (Some s) (Some t) (Some u) x y p q = q ∙ ap (λ l. l ++ y) p ∙ append_assoc s x y

-- a piece, and a flush
pub appends_kept : (a b c : Option (List ℕ)) (x : List ℕ) → Appends a b x → Keeps b c → Appends a c x
appends_kept None b c x p q = tt
appends_kept (Some s) None c x p q = absurd p
appends_kept (Some s) (Some t) None x p q = absurd q
appends_kept (Some s) (Some t) (Some u) x p q = q ∙ p

-- one piece more of a list of them
pub appends_more : {X : Type 0} (each : X → List ℕ) (xs : List X) (i : ℕ) (d : X) (a b c : Option (List ℕ)) → i < length xs → Appends a b (flat_map each (take i xs)) → Appends b c (each (get_or xs i d)) → Appends a c (flat_map each (take (i + 1) xs))
appends_more each xs i d a b c lt p q =
    let x = get_or xs i d in
    let one : flat_map each (take i xs ++ x ∷ []) ≡ flat_map each (take i xs) ++ each x =
    flat_map-append each (take i xs) (x ∷ []) ∙ ap (λ l. flat_map each (take i xs) ++ l) (append-nil (each x)) in
    subst (Appends a c) (sym (ap (flat_map each) (take_more xs i d lt) ∙ one)) (appends_both a b c (flat_map each (take i xs)) (each x) p q)

-- all pieces
pub appends_all : {X : Type 0} (each : X → List ℕ) (xs : List X) (i : ℕ) (a b : Option (List ℕ)) → length xs ≤ i → Appends a b (flat_map each (take i xs)) → Appends a b (flat_map each xs)
appends_all each xs i a b le p = subst (λ l. Appends a b (flat_map each l)) (take_all i xs le) p

-- A LIST THAT IS WRITTEN FROM ITS FRONT: with the rest written, all is

abbrev pub Completes : Option (List ℕ) → Option (List ℕ) → (rest all : List ℕ) → Type 0
Completes a b rest all = (new : Option (List ℕ)) → Appends b new rest → Appends a new all

pub completes_more : (a b c : Option (List ℕ)) (x rest all : List ℕ) → Completes a b (x ++ rest) all → Appends b c x → Completes a c rest all
completes_more a b c x rest all so_far p = λ new h. so_far new (appends_both b c new x rest p h)

pub completes_all : (a b : Option (List ℕ)) (all : List ℕ) → Completes a b [] all → Appends a b all
completes_all a b all so_far = so_far b (appends_none b)

-- what holds whatever is answered
pub on_ok : {T E P : Type 0} (r : Result T E) → P → OnOk r P
on_ok (Ok x) p = p
on_ok (Err e) p = tt
