-- A writer that takes text after text.
use Rattle.std.proofs.Common.{◌≡◌, ℕ, List, [], ◌++◌, take, drop, refl, sym, ◌∙◌, ap, append_assoc, append-nil, Option, Some, None, Result, Ok, Err}
use Rattle.std.proofs.lemmas.List.{take-append-drop}
use Rattle.std.specs.Prelude.{OnErr, OnOk}
use Rattle.std.specs.Io.KnownBytes.{Appends, Keeps}
use Rattle.ckrt_disk.specs.Writing.{AppendsPart}

-- what is said of a fault
pub on_err : {A E : Type 0} (r : Result A E) (P : Type 0) → P → OnErr r P
on_err (Ok x) P p = tt
on_err (Err e) P p = p

pub map_ok : {A E : Type 0} (r : Result A E) (P Q : Type 0) → (P → Q) → OnOk r P → OnOk r Q
map_ok (Ok x) P Q f p = f p
map_ok (Err e) P Q f p = tt

pub map_err : {A E : Type 0} (r : Result A E) (P Q : Type 0) → (P → Q) → OnErr r P → OnErr r Q
map_err (Ok x) P Q f p = tt
map_err (Err e) P Q f p = f p

pub Appends-append : (a b c : Option (List ℕ)) (x y : List ℕ) → Appends a b x → Appends b c y → Appends a c (x ++ y)
Appends-append None b c x y p q = tt
Appends-append (Some s) None c x y p q = absurd p
Appends-append (Some s) (Some t) None x y p q = absurd q
Appends-append (Some s) (Some t) (Some u) x y p q = q ∙ (ap (λ (l : List ℕ). l ++ y) p ∙ append_assoc s x y)

pub Appends-nothing : (a : Option (List ℕ)) → Appends a a []
Appends-nothing None = tt
Appends-nothing (Some s) = sym (append-nil s)

pub appends_kept : (a b c : Option (List ℕ)) (x : List ℕ) → Appends a b x → Keeps b c → Appends a c x
appends_kept None b c x p q = tt
appends_kept (Some s) None c x p q = absurd p
appends_kept (Some s) (Some t) None x p q = absurd q
appends_kept (Some s) (Some t) (Some u) x p q = q ∙ p

-- a writer that kept what it has has a beginning of any text more
pub part_nothing : (a : Option (List ℕ)) (text : List ℕ) → AppendsPart a a text
part_nothing a text = ([], (text, refl), Appends-nothing a)

-- a whole text is a beginning of itself, and stays one where the writer fails then
pub part_whole : (a b c : Option (List ℕ)) (text : List ℕ) → Appends a b text → Keeps b c → AppendsPart a c text
part_whole a b c text p k = (text, ([], sym (append-nil text)), appends_kept a b c text p k)

-- n bytes more were written
pub bytes_more : (a b c : Option (List ℕ)) (n : ℕ) (bytes front rest more : List ℕ) → Appends a b front → bytes ≡ front ++ rest → Appends b c (take n rest) → more ≡ drop n rest → (x : List ℕ) × Appends a c x × (bytes ≡ x ++ more)
bytes_more a b c n bytes front rest more p is q back =
    (front ++ take n rest, Appends-append a b c front (take n rest) p q, is ∙ (ap (λ (l : List ℕ). front ++ l) (sym (take-append-drop n rest)) ∙ (sym (append_assoc front (take n rest) (drop n rest)) ∙ ap (λ (l : List ℕ). (front ++ take n rest) ++ l) (sym back))))

-- a failed call wrote none
pub bytes_kept : (a b c : Option (List ℕ)) (bytes front rest : List ℕ) → Appends a b front → bytes ≡ front ++ rest → Keeps b c → (x : List ℕ) × Appends a c x × (bytes ≡ x ++ rest)
bytes_kept a b c bytes front rest p is k = (front, appends_kept a b c front p k, is)
