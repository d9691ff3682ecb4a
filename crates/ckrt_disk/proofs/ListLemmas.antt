-- Beginnings of lists.
use Rattle.std.proofs.Common.{◌≡◌, ℕ, ◌≤◌, List, [], ◌++◌, length, take, drop, refl, sym, ◌∙◌, ap, subst, arith, append_assoc, append-nil, take-take}
use Rattle.std.proofs.lemmas.List.{take-append-drop, take-append-le, take_all}
use Rattle.ckrt_disk.specs.Lists.{IsBeginningOf}

pub nothing_begins : {A : Type 0} (all : List A) → IsBeginningOf [] all
nothing_begins all = (all, refl)

pub begins_itself : {A : Type 0} (all : List A) → IsBeginningOf all all
begins_itself all = ([], sym (append-nil all))

pub begins_more : {A : Type 0} (front all more : List A) → IsBeginningOf front all → IsBeginningOf front (all ++ more)
begins_more {A} front all more h = (h.0 ++ more, ap (λ (l : List A). l ++ more) h.1 ∙ append_assoc front h.0 more)

pub begins_behind : {A : Type 0} (front some all : List A) → IsBeginningOf some all → IsBeginningOf (front ++ some) (front ++ all)
begins_behind {A} front some all h = (h.0, ap (λ (l : List A). front ++ l) h.1 ∙ sym (append_assoc front some h.0))

pub begins_through : {A : Type 0} (few some all : List A) → IsBeginningOf few some → IsBeginningOf some all → IsBeginningOf few all
begins_through {A} few some all h k = (h.0 ++ k.0, k.1 ∙ (ap (λ (l : List A). l ++ k.0) h.1 ∙ append_assoc few h.0 k.0))

-- THE FIRST FEW

pub take_begins : {A : Type 0} (n : ℕ) (all : List A) → IsBeginningOf (take n all) all
take_begins n all = (drop n all, sym (take-append-drop n all))

-- fewer begin more of the same list
pub fewer_begin : {A : Type 0} (n m : ℕ) (all : List A) → n ≤ m → IsBeginningOf (take n all) (take m all)
fewer_begin {A} n m all le = subst (λ (l : List A). IsBeginningOf l (take m all)) (take-take n m all le) (take_begins n (take m all))

-- and more of a longer one
pub taken_begins : {A : Type 0} (n m : ℕ) (all more : List A) → n ≤ length all → n ≤ m → IsBeginningOf (take n all) (take m (all ++ more))
taken_begins {A} n m all more within le =
    let e : take n (take m (all ++ more)) ≡ take n all = take-take n m (all ++ more) le ∙ take-append-le n all more within in
    subst (λ (l : List A). IsBeginningOf l (take m (all ++ more))) e (take_begins n (take m (all ++ more)))

-- a beginning that is no longer begins the first ones
pub begins_taken : {A : Type 0} (m : ℕ) (front all : List A) → length front ≤ m → IsBeginningOf front all → IsBeginningOf front (take m all)
begins_taken {A} m front all le h =
    let first : take (length front) all ≡ front = ap (take (length front)) h.1 ∙ (take-append-le (length front) front h.0 (omega arith) ∙ take_all (length front) front (omega arith)) in
    subst (λ (l : List A). IsBeginningOf l (take m all)) first (fewer_begin (length front) m all le)
