-- How many elements of a list pass a test.
use Rattle.std.proofs.Common.{◌≡◌, ◌+◌, ◌≤◌, Bool, true, false, List, [], ◌∷◌, ◌++◌, refl, arith}
use Rattle.std.specs.List.{list_any}
use Rattle.std.proofs.lemmas.Bool.Decides.{nat_tests}
use Rattle.ckrt_thread.specs.State.{count_of}

pub count_of-append : {X : Type 0} (p : X → Bool) (xs ys : List X) → count_of p (xs ++ ys) ≡ count_of p xs + count_of p ys
count_of-append p [] ys = omega arith
count_of-append p (x ∷ xs) ys = omega (arith, count_of-append p xs ys)

pub count_of_none : {X : Type 0} (p : X → Bool) (xs : List X) → list_any p xs ≡ false → count_of p xs ≡ 0
count_of_none p [] h = refl
count_of_none p (x ∷ xs) h = grind (arith, nat_tests, count_of_none p xs)

pub count_of_some : {X : Type 0} (p : X → Bool) (xs : List X) → list_any p xs ≡ true → 1 ≤ count_of p xs
count_of_some p [] h = absurd (cc)
count_of_some p (x ∷ xs) h = grind (arith, nat_tests, count_of_some p xs)

pub none_of_count : {X : Type 0} (p : X → Bool) (xs : List X) → count_of p xs ≡ 0 → list_any p xs ≡ false
none_of_count p [] h = refl
none_of_count p (x ∷ xs) h = grind (arith, nat_tests, none_of_count p xs)
