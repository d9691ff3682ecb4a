-- Links from entry to entry, and the row that they keep.
use Rattle.std.proofs.Common.{◌≡◌, ◌≢◌, eqb-true, ℕ, zero, suc, ◌+◌, ◌-◌, ◌≤◌, ◌<◌, nat_eq, Bool, true, false, cond, eqb, List, [], ◌∷◌, ◌++◌, length, refl, sym, ap, subst, ◌∙◌, arith, slice_index, slice_set, get_or-set_other, get_or-set_same}
use Rattle.std.specs.List.{list_any, IsDistinct, AllByRecursion}
use Rattle.std.proofs.lemmas.Bool.Decides.{nat_tests}
use Rattle.std.proofs.lemmas.List.{length-set, length-append}
use Rattle.std.proofs.lemmas.List.Folds.{list_any-append}
use Rattle.std.proofs.lemmas.Map.Steps.{length-le_from_distinct_below}
use Rattle.ckrt_thread.specs.declared.links.Links.{Links}
use Rattle.ckrt_thread.specs.declared.links.Ends.{Ends}
use Rattle.ckrt_thread.specs.Links.{walk, row, dropped, first_of, IsPath, IsBack, IsChain, KeepsOthers}

read_other : (l : List ℕ) (i v x : ℕ) → nat_eq i x ≡ false → slice_index (slice_set l i v) x ≡ slice_index l x
read_other l i v x h = let ne : x ≢ i = (λ e. grind (arith, nat_tests)) in get_or-set_other l i x v 0 ne

read_same : (l : List ℕ) (i v : ℕ) → i < length l → slice_index (slice_set l i v) i ≡ v
read_same l i v h = get_or-set_same l i v 0 h

-- the walk along a path is the path
pub walk_path : (n : ℕ) (next : List ℕ) (f : ℕ) (xs : List ℕ) → length xs < n → IsPath next f xs → walk n next f ≡ xs
walk_path zero next f xs l h = absurd (omega arith)
walk_path (suc n) next f [] l h = grind (arith, nat_tests)
walk_path (suc n) next f (x ∷ xs) l h =
    let r = walk_path n next (slice_index next x) xs (omega arith) h.4 in
    let z : eqb x 0 ≡ false = (let p = h.1 in grind (arith, nat_tests)) in
    rw (h.0, z) (ap (λ ys. x ∷ ys) r)

-- a write elsewhere keeps a path
pub path_set : (next : List ℕ) (f : ℕ) (xs : List ℕ) (i v : ℕ) → list_any (nat_eq i) xs ≡ false → IsPath next f xs → IsPath (slice_set next i v) f xs
path_set next f [] i v n h = h
path_set next f (x ∷ xs) i v n h =
    let a : nat_eq i x ≡ false = grind (arith, nat_tests) in
    let b : list_any (nat_eq i) xs ≡ false = grind (arith, nat_tests) in
    (h.0, h.1, h.2, h.3, rw (read_other next i v x a) (path_set next (slice_index next x) xs i v b h.4))

pub back_set : (previous : List ℕ) (p : ℕ) (xs : List ℕ) (l i v : ℕ) → list_any (nat_eq i) xs ≡ false → IsBack previous p xs l → IsBack (slice_set previous i v) p xs l
back_set previous p [] l i v n h = h
back_set previous p (x ∷ xs) l i v n h =
    let a : nat_eq i x ≡ false = grind (arith, nat_tests) in
    let b : list_any (nat_eq i) xs ≡ false = grind (arith, nat_tests) in
    (read_other previous i v x a ∙ h.0, back_set previous x xs l i v b h.1)

-- one more at the end, seen from behind
pub back_push : (previous : List ℕ) (p : ℕ) (xs : List ℕ) (l t : ℕ) → t < length previous → list_any (nat_eq t) xs ≡ false → IsBack previous p xs l → IsBack (slice_set previous t l) p (xs ++ t ∷ []) t
back_push previous p [] l t w n h = (read_same previous t l w ∙ sym h, refl)
back_push previous p (x ∷ xs) l t w n h =
    let a : nat_eq t x ≡ false = grind (arith, nat_tests) in
    let b : list_any (nat_eq t) xs ≡ false = grind (arith, nat_tests) in
    (read_other previous t l x a ∙ h.0, back_push previous x xs l t w b h.1)

-- the last of a row behind d
abbrev pub last_or : ℕ → List ℕ → ℕ
last_or d [] = d
last_or d (x ∷ xs) = last_or x xs

pub back_last : (previous : List ℕ) (p : ℕ) (xs : List ℕ) (l : ℕ) → IsBack previous p xs l → l ≡ last_or p xs
back_last previous p [] l h = sym h
back_last previous p (x ∷ xs) l h = back_last previous x xs l h.1

last_in : (x : ℕ) (xs : List ℕ) → list_any (nat_eq (last_or x xs)) (x ∷ xs) ≡ true
last_in x [] = grind (arith, nat_tests)
last_in x (y ∷ xs) = grind (arith, nat_tests, last_in y xs)

-- x is not the last of a row that it does not stand in
last_other : (x y : ℕ) (ys : List ℕ) → list_any (nat_eq x) (y ∷ ys) ≡ false → nat_eq (last_or y ys) x ≡ false
last_other x y ys h = grind (arith, nat_tests, last_in y ys, ap (λ q. list_any (nat_eq q) (y ∷ ys)))

any_push : (x t : ℕ) (xs : List ℕ) → list_any (nat_eq x) xs ≡ false → nat_eq x t ≡ false → list_any (nat_eq x) (xs ++ t ∷ []) ≡ false
any_push x t xs h n = grind (arith, nat_tests, list_any-append (nat_eq x) xs (t ∷ []))

-- one more at the end of a row that is not empty
pub path_push : (next : List ℕ) (f x : ℕ) (xs : List ℕ) (t : ℕ) → length next ≡ 65 → 0 < t → t ≤ 64 → list_any (nat_eq t) (x ∷ xs) ≡ false → IsPath next f (x ∷ xs) → IsPath (slice_set (slice_set next (last_or x xs) t) t 0) f (x ∷ (xs ++ t ∷ []))
path_push next f x [] t s p l n h =
    let a : nat_eq t x ≡ false = grind (arith, nat_tests) in
    let b : nat_eq x t ≡ false = grind (arith, nat_tests) in
    let w : x < length next = (let k = h.2 in omega arith) in
    let v : t < length (slice_set next x t) = (let k = length-set next x t in omega arith) in
    (h.0, h.1, h.2, grind (arith, nat_tests), (read_other (slice_set next x t) t 0 x a ∙ read_same next x t w, p, l, refl, read_same (slice_set next x t) t 0 v))
path_push next f x (y ∷ ys) t s p l n h =
    let a : nat_eq t x ≡ false = grind (arith, nat_tests) in
    let b : list_any (nat_eq t) (y ∷ ys) ≡ false = grind (arith, nat_tests) in
    let o : nat_eq (last_or y ys) x ≡ false = last_other x y ys h.3 in
    let e : slice_index (slice_set (slice_set next (last_or y ys) t) t 0) x ≡ slice_index next x = read_other (slice_set next (last_or y ys) t) t 0 x a ∙ read_other next (last_or y ys) t x o in
    (h.0, h.1, h.2, any_push x t (y ∷ ys) h.3 (grind (arith, nat_tests)), rw e (path_push next (slice_index next x) y ys t s p l b h.4))

last_range : (next : List ℕ) (f x : ℕ) (xs : List ℕ) → IsPath next f (x ∷ xs) → (0 < last_or x xs) × (last_or x xs ≤ 64)
last_range next f x [] h = (h.1, h.2)
last_range next f x (y ∷ ys) h = last_range next (slice_index next x) y ys h.4

pub last_fits : (ls : Links) (en : Ends) (xs : List ℕ) → IsChain ls en xs → en.last < 65
last_fits ls en [] h = (let b = h.back in omega arith)
last_fits ls en (x ∷ xs) h =
    let r = last_range ls.next en.first x xs h.forth in
    let e = back_last ls.previous 0 (x ∷ xs) en.last h.back in
    omega (arith, r.1)

-- a chain with one more at its end, where it was empty and where it was not
pub chain_one : (ls : Links) (en : Ends) (xs : List ℕ) (t : ℕ) → IsChain ls en xs → 0 < t → t ≤ 64 → list_any (nat_eq t) xs ≡ false → en.last ≡ 0
    → IsChain (record { next = slice_set ls.next t 0; previous = slice_set ls.previous t en.last }) (record { first = t; last = t; count = en.count + 1 }) (xs ++ t ∷ [])
chain_one ls en [] t h p l n z =
    let w : t < length ls.next = (let k = h.next_size in omega arith) in
    let v : t < length ls.previous = (let k = h.previous_size in omega arith) in
    record {
      next_size = length-set ls.next t 0 ∙ h.next_size;
      previous_size = length-set ls.previous t en.last ∙ h.previous_size;
      forth = (refl, p, l, refl, read_same ls.next t 0 w);
      back = back_push ls.previous 0 [] en.last t v n h.back;
      count = (let k = h.count in omega arith);
    }
chain_one ls en (x ∷ xs) t h p l n z =
    let r = last_range ls.next en.first x xs h.forth in
    let e = back_last ls.previous 0 (x ∷ xs) en.last h.back in
    absurd (omega (arith, r.0))

pub chain_more : (ls : Links) (en : Ends) (xs : List ℕ) (t : ℕ) → IsChain ls en xs → 0 < t → t ≤ 64 → list_any (nat_eq t) xs ≡ false → en.last ≢ 0
    → IsChain (record { next = slice_set (slice_set ls.next en.last t) t 0; previous = slice_set ls.previous t en.last }) (record { first = en.first; last = t; count = en.count + 1 }) (xs ++ t ∷ [])
chain_more ls en [] t h p l n z = absurd (z (sym h.back))
chain_more ls en (x ∷ xs) t h p l n z =
    let v : t < length ls.previous = (let k = h.previous_size in omega arith) in
    let e = back_last ls.previous 0 (x ∷ xs) en.last h.back in
    record {
      next_size = length-set (slice_set ls.next en.last t) t 0 ∙ length-set ls.next en.last t ∙ h.next_size;
      previous_size = length-set ls.previous t en.last ∙ h.previous_size;
      forth = subst (λ q. IsPath (slice_set (slice_set ls.next q t) t 0) en.first (x ∷ (xs ++ t ∷ []))) (sym e) (path_push ls.next en.first x xs t h.next_size p l n h.forth);
      back = back_push ls.previous 0 (x ∷ xs) en.last t v n h.back;
      count = (let k = h.count in let a = length-append (x ∷ xs) (t ∷ []) in omega (arith, k, a));
    }

-- a write to an entry that a chain has none of keeps it
set_next : (ls : Links) (i v : ℕ) (en : Ends) (ys : List ℕ) → list_any (nat_eq i) ys ≡ false → IsChain ls en ys → IsChain (record ls { next = slice_set ls.next i v }) en ys
set_next ls i v en ys n h = record {
  next_size = length-set ls.next i v ∙ h.next_size;
  previous_size = h.previous_size;
  forth = path_set ls.next en.first ys i v n h.forth;
  back = h.back;
  count = h.count;
}

set_previous : (ls : Links) (i v : ℕ) (en : Ends) (ys : List ℕ) → list_any (nat_eq i) ys ≡ false → IsChain ls en ys → IsChain (record ls { previous = slice_set ls.previous i v }) en ys
set_previous ls i v en ys n h = record {
  next_size = h.next_size;
  previous_size = length-set ls.previous i v ∙ h.previous_size;
  forth = h.forth;
  back = back_set ls.previous 0 ys en.last i v n h.back;
  count = h.count;
}

pub others_next : (xs : List ℕ) (ls : Links) (i v : ℕ) → list_any (nat_eq i) xs ≡ true → KeepsOthers xs ls (record ls { next = slice_set ls.next i v })
others_next xs ls i v m = λ en ys a h. set_next ls i v en ys (a i m) h

pub others_previous : (xs : List ℕ) (ls : Links) (i v : ℕ) → list_any (nat_eq i) xs ≡ true → KeepsOthers xs ls (record ls { previous = slice_set ls.previous i v })
others_previous xs ls i v m = λ en ys a h. set_previous ls i v en ys (a i m) h

-- those that neither of two changes touches
pub others_twice : (xs : List ℕ) (a b c : Links) → KeepsOthers xs a b → KeepsOthers xs b c → KeepsOthers xs a c
others_twice xs a b c f g = λ en ys apart h. g en ys apart (f en ys apart h)

newest_in : (t : ℕ) (xs : List ℕ) → list_any (nat_eq t) (t ∷ xs) ≡ true
newest_in t xs = grind (arith, nat_tests)

pub others_one : (ls : Links) (xs : List ℕ) (t v : ℕ) → KeepsOthers (t ∷ xs) ls (record { next = slice_set ls.next t 0; previous = slice_set ls.previous t v })
others_one ls xs t v = others_twice (t ∷ xs) ls (record ls { previous = slice_set ls.previous t v }) (record { next = slice_set ls.next t 0; previous = slice_set ls.previous t v })
    (others_previous (t ∷ xs) ls t v (newest_in t xs)) (others_next (t ∷ xs) (record ls { previous = slice_set ls.previous t v }) t 0 (newest_in t xs))

last_there : (ls : Links) (en : Ends) (xs : List ℕ) (t : ℕ) → IsChain ls en xs → en.last ≢ 0 → list_any (nat_eq en.last) (t ∷ xs) ≡ true
last_there ls en [] t h z = absurd (z (sym h.back))
last_there ls en (x ∷ xs) t h z =
    let e = back_last ls.previous 0 (x ∷ xs) en.last h.back in
    let i = last_in x xs in
    let j : list_any (nat_eq en.last) (x ∷ xs) ≡ true = subst (λ q. list_any (nat_eq q) (x ∷ xs) ≡ true) (sym e) i in
    grind (arith, nat_tests, j)

pub others_more : (ls : Links) (en : Ends) (xs : List ℕ) (t : ℕ) → IsChain ls en xs → en.last ≢ 0 → KeepsOthers (t ∷ xs) ls (record { next = slice_set (slice_set ls.next en.last t) t 0; previous = slice_set ls.previous t en.last })
others_more ls en xs t h z = others_twice (t ∷ xs) ls (record ls { next = slice_set ls.next en.last t }) (record { next = slice_set (slice_set ls.next en.last t) t 0; previous = slice_set ls.previous t en.last })
    (others_next (t ∷ xs) ls en.last t (last_there ls en xs t h z))
    (others_one (record ls { next = slice_set ls.next en.last t }) xs t en.last)

-- a row of different numbers from 1 to 64 is short
none_apart : (x : ℕ) (xs : List ℕ) → list_any (nat_eq x) xs ≡ false → AllByRecursion (λ y. nat_eq x y ≡ false) xs
none_apart x [] h = tt
none_apart x (y ∷ xs) h = (grind (arith, nat_tests), none_apart x xs (grind (arith, nat_tests)))

path_distinct : (next : List ℕ) (f : ℕ) (xs : List ℕ) → IsPath next f xs → IsDistinct eqb xs
unfolding IsDistinct
path_distinct next f [] h = tt
path_distinct next f (x ∷ xs) h = (none_apart x xs h.3, path_distinct next (slice_index next x) xs h.4)

pub path_in : (next : List ℕ) (f q : ℕ) (xs : List ℕ) → IsPath next f xs → list_any (nat_eq q) xs ≡ true → (0 < q) × (q < 65)
path_in next f q [] h m = absurd (cc)
path_in next f q (x ∷ xs) h m =
    let a = h.1 in let b = h.2 in
    let r : list_any (nat_eq q) xs ≡ true → (0 < q) × (q < 65) = path_in next (slice_index next x) q xs h.4 in
    (grind (arith, nat_tests, r), grind (arith, nat_tests, r))

no_zero : (next : List ℕ) (f : ℕ) (xs : List ℕ) → IsPath next f xs → list_any (nat_eq 0) xs ≡ false
no_zero next f [] h = refl
no_zero next f (x ∷ xs) h = let a = h.1 in grind (arith, nat_tests, no_zero next (slice_index next x) xs h.4)

below : (next : List ℕ) (f q : ℕ) (xs : List ℕ) → IsPath next f xs → list_any (eqb q) (0 ∷ xs) ≡ true → q < 65
below next f q xs h m =
    let r : list_any (nat_eq q) xs ≡ true → q < 65 = λ k. (path_in next f q xs h k).1 in
    grind (arith, nat_tests, r)

pub path_short : (next : List ℕ) (f : ℕ) (xs : List ℕ) → IsPath next f xs → length xs < 65
unfolding IsDistinct
path_short next f xs h =
    let zero_apart : list_any (nat_eq 0) xs ≡ false = no_zero next f xs h in
    let d : IsDistinct eqb (0 ∷ xs) = (none_apart 0 xs zero_apart, path_distinct next f xs h) in
    let b : length (0 ∷ xs) ≤ 65 = length-le_from_distinct_below (0 ∷ xs) 65 d (λ q m. below next f q xs h m) in
    omega arith

-- the row that a chain keeps is the one that it is a chain of
pub row_is : (ls : Links) (en : Ends) (xs : List ℕ) → IsChain ls en xs → row ls en ≡ xs
row_is ls en xs h = walk_path (length ls.next) ls.next en.first xs (let s = path_short ls.next en.first xs h.forth in let k = h.next_size in omega (arith, s, k)) h.forth

-- TAKING OUT

-- what stands before t in a row behind p, and what stands behind t
abbrev pub before_of : ℕ → List ℕ → ℕ → ℕ
before_of p [] t = p
before_of p (x ∷ xs) t = cond (nat_eq t x) p (before_of x xs t)

abbrev pub after_of : List ℕ → ℕ → ℕ
after_of [] t = 0
after_of (x ∷ xs) t = cond (nat_eq t x) (first_of xs) (after_of xs t)

pub back_before : (previous : List ℕ) (p : ℕ) (xs : List ℕ) (l t : ℕ) → list_any (nat_eq t) xs ≡ true → IsBack previous p xs l → slice_index previous t ≡ before_of p xs t
back_before previous p [] l t m h = absurd (cc)
back_before previous p (x ∷ xs) l t m h =
    let here : nat_eq t x ≡ true → slice_index previous t ≡ p = λ e. ap (slice_index previous) (eqb-true t x e) ∙ h.0 in
    let there : list_any (nat_eq t) xs ≡ true → slice_index previous t ≡ before_of x xs t = λ k. back_before previous x xs l t k h.1 in
    grind (arith, nat_tests, here, there)

pub path_first : (next : List ℕ) (f : ℕ) (xs : List ℕ) → IsPath next f xs → f ≡ first_of xs
path_first next f [] h = h
path_first next f (x ∷ xs) h = h.0

pub path_after : (next : List ℕ) (f : ℕ) (xs : List ℕ) (t : ℕ) → list_any (nat_eq t) xs ≡ true → IsPath next f xs → slice_index next t ≡ after_of xs t
path_after next f [] t m h = absurd (cc)
path_after next f (x ∷ xs) t m h =
    let here : nat_eq t x ≡ true → slice_index next t ≡ first_of xs = λ e. ap (slice_index next) (eqb-true t x e) ∙ path_first next (slice_index next x) xs h.4 in
    let there : list_any (nat_eq t) xs ≡ true → slice_index next t ≡ after_of xs t = λ k. path_after next (slice_index next x) xs t k h.4 in
    grind (arith, nat_tests, here, there)

any_without : (q t : ℕ) (xs : List ℕ) → list_any (nat_eq q) xs ≡ false → list_any (nat_eq q) (dropped t xs) ≡ false
any_without q t [] h = refl
any_without q t (x ∷ xs) h = grind (arith, nat_tests, any_without q t xs)

-- what stands before t, where t is not the first, stands in the row
before_in : (x t : ℕ) (xs : List ℕ) → list_any (nat_eq t) xs ≡ true → list_any (nat_eq (before_of x xs t)) (x ∷ xs) ≡ true
before_in x t [] m = absurd (cc)
before_in x t (y ∷ ys) m = grind (arith, nat_tests, before_in y t ys)

before_other : (x y t : ℕ) (ys : List ℕ) → list_any (nat_eq t) ys ≡ true → list_any (nat_eq x) (y ∷ ys) ≡ false → nat_eq (before_of y ys t) x ≡ false
before_other x y t ys m h = grind (arith, nat_tests, before_in y t ys m, ap (λ q. list_any (nat_eq q) (y ∷ ys)))

cut_here : (next : List ℕ) (f x y : ℕ) (ys : List ℕ) → length next ≡ 65 → IsPath next f (x ∷ (y ∷ ys)) → IsPath (slice_set next x (slice_index next y)) f (x ∷ ys)
cut_here next f x y ys s h =
    let w : x < length next = (let k = h.2 in omega arith) in
    let n : list_any (nat_eq x) ys ≡ false = (let k = h.3 in grind (arith, nat_tests)) in
    (h.0, h.1, h.2, n, rw (read_same next x (slice_index next y) w) (path_set next (slice_index next y) ys x (slice_index next y) n h.4.4))

-- the path dropped t, which is not its first: what stood before t leads to what stood behind it
pub path_cut : (next : List ℕ) (f x : ℕ) (xs : List ℕ) (t : ℕ) → length next ≡ 65 → list_any (nat_eq t) xs ≡ true → IsPath next f (x ∷ xs) → IsPath (slice_set next (before_of x xs t) (slice_index next t)) f (x ∷ dropped t xs)
path_cut next f x [] t s m h = absurd (cc)
path_cut next f x (y ∷ ys) t s m h =
    let P : Bool → Type 0 = λ b. IsPath (slice_set next (cond b x (before_of y ys t)) (slice_index next t)) f (x ∷ cond b ys (y ∷ dropped t ys)) in
    elim (nat_eq t y) as (λ b. nat_eq t y ≡ b → P b) [
      | true ↦ λ e. subst (λ q. IsPath (slice_set next x (slice_index next q)) f (x ∷ ys)) (sym (eqb-true t y e)) (cut_here next f x y ys s h)
      | false ↦ λ e.
          let k : list_any (nat_eq t) ys ≡ true = grind (arith, nat_tests) in
          let i = before_in y t ys k in
          let xn = h.3 in
          let o : nat_eq (before_of y ys t) x ≡ false = before_other x y t ys k h.3 in
          let n : list_any (nat_eq x) (y ∷ dropped t ys) ≡ false = (let z = any_without x t ys in grind (arith, nat_tests, z)) in
          (h.0, h.1, h.2, n, rw (read_other next (before_of y ys t) (slice_index next t) x o) (path_cut next (slice_index next x) y ys t s k h.4))
    ] refl

-- the path dropped its first
path_head : (next : List ℕ) (f : ℕ) (xs : List ℕ) (t : ℕ) → list_any (nat_eq t) xs ≡ true → before_of 0 xs t ≡ 0 → IsPath next f xs → IsPath next (slice_index next t) (dropped t xs)
path_head next f [] t m b h = absurd (cc)
path_head next f (x ∷ xs) t m b h =
    elim (nat_eq t x) as (λ v. nat_eq t x ≡ v → IsPath next (slice_index next t) (cond v xs (x ∷ dropped t xs))) [
      | true ↦ λ e. subst (λ q. IsPath next (slice_index next q) xs) (sym (eqb-true t x e)) h.4
      | false ↦ λ e. absurd (
          let k : list_any (nat_eq t) xs ≡ true = grind (arith, nat_tests) in
          let z : before_of x xs t ≡ 0 = grind (arith, nat_tests) in
          let i : list_any (nat_eq 0) (x ∷ xs) ≡ true = subst (λ q. list_any (nat_eq q) (x ∷ xs) ≡ true) z (before_in x t xs k) in
          let r = (path_in next f 0 (x ∷ xs) h i).0 in omega arith)
    ] refl

path_mid : (next : List ℕ) (f : ℕ) (xs : List ℕ) (t : ℕ) → length next ≡ 65 → list_any (nat_eq t) xs ≡ true → before_of 0 xs t ≢ 0 → IsPath next f xs → IsPath (slice_set next (before_of 0 xs t) (slice_index next t)) f (dropped t xs)
path_mid next f [] t s m b h = absurd (cc)
path_mid next f (x ∷ xs) t s m b h =
    elim (nat_eq t x) as (λ v. nat_eq t x ≡ v → IsPath (slice_set next (cond v 0 (before_of x xs t)) (slice_index next t)) f (cond v xs (x ∷ dropped t xs))) [
      | true ↦ λ e. absurd (b (rw e refl))
      | false ↦ λ e. path_cut next f x xs t s (grind (arith, nat_tests)) h
    ] refl

no_first : (next : List ℕ) (f : ℕ) (xs : List ℕ) → IsPath next f xs → first_of xs ≡ 0 → xs ≡ []
no_first next f [] h z = refl
no_first next f (x ∷ xs) h z = absurd (let p = h.1 in omega arith)

-- the way back dropped its last
back_end : (next : List ℕ) (f : ℕ) (previous : List ℕ) (p : ℕ) (xs : List ℕ) (l t : ℕ) → IsPath next f xs → list_any (nat_eq t) xs ≡ true → after_of xs t ≡ 0 → IsBack previous p xs l → IsBack previous p (dropped t xs) (before_of p xs t)
back_end next f previous p [] l t q m a h = absurd (cc)
back_end next f previous p (x ∷ xs) l t q m a h =
    elim (nat_eq t x) as (λ v. nat_eq t x ≡ v → IsBack previous p (cond v xs (x ∷ dropped t xs)) (cond v p (before_of x xs t))) [
      | true ↦ λ e.
          let z : first_of xs ≡ 0 = grind (arith, nat_tests) in
          subst (λ ys. IsBack previous p ys p) (sym (no_first next (slice_index next x) xs q.4 z)) refl
      | false ↦ λ e.
          let k : list_any (nat_eq t) xs ≡ true = grind (arith, nat_tests) in
          let z : after_of xs t ≡ 0 = grind (arith, nat_tests) in
          (h.0, back_end next (slice_index next x) previous x xs l t q.4 k z h.1)
    ] refl

after_in : (xs : List ℕ) (t : ℕ) → after_of xs t ≢ 0 → list_any (nat_eq (after_of xs t)) xs ≡ true
after_in [] t n = absurd (n refl)
after_in (x ∷ []) t n = absurd (n (grind (arith, nat_tests)))
after_in (x ∷ (y ∷ ys)) t n =
    let r : after_of (y ∷ ys) t ≢ 0 → list_any (nat_eq (after_of (y ∷ ys) t)) (y ∷ ys) ≡ true = after_in (y ∷ ys) t in
    elim (nat_eq t x) as (λ v. nat_eq t x ≡ v → list_any (nat_eq (cond v y (after_of (y ∷ ys) t))) (x ∷ (y ∷ ys)) ≡ true) [
      | true ↦ λ e. grind (arith, nat_tests)
      | false ↦ λ e. let k : after_of (y ∷ ys) t ≢ 0 = (λ z. n (rw e z)) in let i = r k in grind (arith, nat_tests)
    ] refl

other_in : (a x : ℕ) (xs : List ℕ) → list_any (nat_eq a) xs ≡ true → list_any (nat_eq x) xs ≡ false → nat_eq a x ≡ false
other_in a x xs m n = grind (arith, nat_tests, ap (λ q. list_any (nat_eq q) xs))

-- the way back past t: what stands behind it leads to what stood before it
back_mid : (next : List ℕ) (f : ℕ) (previous : List ℕ) (p : ℕ) (xs : List ℕ) (l t : ℕ) → length previous ≡ 65 → IsPath next f xs → list_any (nat_eq t) xs ≡ true → after_of xs t ≢ 0 → IsBack previous p xs l → IsBack (slice_set previous (after_of xs t) (before_of p xs t)) p (dropped t xs) l
back_mid next f previous p [] l t s q m a h = absurd (cc)
back_mid next f previous p (x ∷ []) l t s q m a h = absurd (a (grind (arith, nat_tests)))
back_mid next f previous p (x ∷ (y ∷ ys)) l t s q m a h =
    elim (nat_eq t x) as (λ v. nat_eq t x ≡ v → IsBack (slice_set previous (cond v y (after_of (y ∷ ys) t)) (cond v p (before_of x (y ∷ ys) t))) p (cond v (y ∷ ys) (x ∷ dropped t (y ∷ ys))) l) [
      | true ↦ λ e.
          let w : y < length previous = (let k = q.4.2 in omega arith) in
          (read_same previous y p w, back_set previous y ys l y p q.4.3 h.1.1)
      | false ↦ λ e.
          let k : list_any (nat_eq t) (y ∷ ys) ≡ true = grind (arith, nat_tests) in
          let n : after_of (y ∷ ys) t ≢ 0 = (λ z. a (rw e z)) in
          let o : nat_eq (after_of (y ∷ ys) t) x ≡ false = other_in (after_of (y ∷ ys) t) x (y ∷ ys) (after_in (y ∷ ys) t n) q.3 in
          (read_other previous (after_of (y ∷ ys) t) (before_of x (y ∷ ys) t) x o ∙ h.0, back_mid next (slice_index next x) previous x (y ∷ ys) l t s q.4 k n h.1)
    ] refl

-- the four ways to take t out of a chain
pub unlink_facts : (ls : Links) (en : Ends) (xs : List ℕ) (t : ℕ) → IsChain ls en xs → list_any (nat_eq t) xs ≡ true → (slice_index ls.previous t ≡ before_of 0 xs t) × (slice_index ls.next t ≡ after_of xs t)
unlink_facts ls en xs t h m = (back_before ls.previous 0 xs en.last t m h.back, path_after ls.next en.first xs t m h.forth)

pub there_fits : (ls : Links) (en : Ends) (xs : List ℕ) (t : ℕ) → IsChain ls en xs → list_any (nat_eq t) xs ≡ true → t < 65
there_fits ls en xs t h m = (path_in ls.next en.first t xs h.forth m).1

pub after_fits : (ls : Links) (en : Ends) (xs : List ℕ) (t : ℕ) → IsChain ls en xs → list_any (nat_eq t) xs ≡ true → slice_index ls.next t ≢ 0 → slice_index ls.next t < 65
after_fits ls en xs t h m n =
    let e = (unlink_facts ls en xs t h m).1 in
    subst (λ q. q < 65) (sym e) (there_fits ls en xs (after_of xs t) h (after_in xs t (λ z. n (e ∙ z))))

before_there : (t : ℕ) (xs : List ℕ) → list_any (nat_eq t) xs ≡ true → before_of 0 xs t ≢ 0 → list_any (nat_eq (before_of 0 xs t)) xs ≡ true
before_there t [] m n = absurd (cc)
before_there t (x ∷ xs) m n =
    elim (nat_eq t x) as (λ v. nat_eq t x ≡ v → list_any (nat_eq (cond v 0 (before_of x xs t))) (x ∷ xs) ≡ true) [
      | true ↦ λ e. absurd (n (rw e refl))
      | false ↦ λ e. before_in x t xs (grind (arith, nat_tests))
    ] refl

pub before_fits : (ls : Links) (en : Ends) (xs : List ℕ) (t : ℕ) → IsChain ls en xs → list_any (nat_eq t) xs ≡ true → slice_index ls.previous t ≢ 0 → slice_index ls.previous t < 65
before_fits ls en xs t h m n =
    let e = (unlink_facts ls en xs t h m).0 in
    subst (λ q. q < 65) (sym e) (there_fits ls en xs (before_of 0 xs t) h (before_there t xs m (λ z. n (e ∙ z))))

pub forth_head : (ls : Links) (en : Ends) (xs : List ℕ) (t : ℕ) → IsChain ls en xs → list_any (nat_eq t) xs ≡ true → slice_index ls.previous t ≡ 0 → IsPath ls.next (slice_index ls.next t) (dropped t xs)
forth_head ls en xs t h m z = path_head ls.next en.first xs t m (sym (unlink_facts ls en xs t h m).0 ∙ z) h.forth

pub forth_mid : (ls : Links) (en : Ends) (xs : List ℕ) (t : ℕ) → IsChain ls en xs → list_any (nat_eq t) xs ≡ true → slice_index ls.previous t ≢ 0 → IsPath (slice_set ls.next (slice_index ls.previous t) (slice_index ls.next t)) en.first (dropped t xs)
forth_mid ls en xs t h m n =
    let e = (unlink_facts ls en xs t h m).0 in
    subst (λ q. IsPath (slice_set ls.next q (slice_index ls.next t)) en.first (dropped t xs)) (sym e) (path_mid ls.next en.first xs t h.next_size m (λ z. n (e ∙ z)) h.forth)

pub back_last_out : (ls : Links) (en : Ends) (xs : List ℕ) (t : ℕ) → IsChain ls en xs → list_any (nat_eq t) xs ≡ true → slice_index ls.next t ≡ 0 → IsBack ls.previous 0 (dropped t xs) (slice_index ls.previous t)
back_last_out ls en xs t h m z =
    let e = unlink_facts ls en xs t h m in
    subst (λ q. IsBack ls.previous 0 (dropped t xs) q) (sym e.0) (back_end ls.next en.first ls.previous 0 xs en.last t h.forth m (sym e.1 ∙ z) h.back)

pub back_mid_out : (ls : Links) (en : Ends) (xs : List ℕ) (t : ℕ) → IsChain ls en xs → list_any (nat_eq t) xs ≡ true → slice_index ls.next t ≢ 0 → IsBack (slice_set ls.previous (slice_index ls.next t) (slice_index ls.previous t)) 0 (dropped t xs) en.last
back_mid_out ls en xs t h m n =
    let e = unlink_facts ls en xs t h m in
    subst (λ q. IsBack (slice_set ls.previous q (slice_index ls.previous t)) 0 (dropped t xs) en.last) (sym e.1) (subst (λ q. IsBack (slice_set ls.previous (after_of xs t) q) 0 (dropped t xs) en.last) (sym e.0) (back_mid ls.next en.first ls.previous 0 xs en.last t h.previous_size h.forth m (λ z. n (e.1 ∙ z)) h.back))

pub set_size : (l : List ℕ) (i v : ℕ) → length l ≡ 65 → length (slice_set l i v) ≡ 65
set_size l i v h = length-set l i v ∙ h

-- WHERE A CHAIN IS CHANGED when one is taken out

pub after_there : (ls : Links) (en : Ends) (xs : List ℕ) (t : ℕ) → IsChain ls en xs → list_any (nat_eq t) xs ≡ true → slice_index ls.next t ≢ 0 → list_any (nat_eq (slice_index ls.next t)) xs ≡ true
after_there ls en xs t h m n =
    let e = (unlink_facts ls en xs t h m).1 in
    subst (λ q. list_any (nat_eq q) xs ≡ true) (sym e) (after_in xs t (λ z. n (e ∙ z)))

pub ahead_there : (ls : Links) (en : Ends) (xs : List ℕ) (t : ℕ) → IsChain ls en xs → list_any (nat_eq t) xs ≡ true → slice_index ls.previous t ≢ 0 → list_any (nat_eq (slice_index ls.previous t)) xs ≡ true
ahead_there ls en xs t h m n =
    let e = (unlink_facts ls en xs t h m).0 in
    subst (λ q. list_any (nat_eq q) xs ≡ true) (sym e) (before_there t xs m (λ z. n (e ∙ z)))

-- HOW MANY

pub length-dropped : (t : ℕ) (xs : List ℕ) → list_any (nat_eq t) xs ≡ true → length (dropped t xs) + 1 ≡ length xs
length-dropped t [] h = absurd (cc)
length-dropped t (x ∷ xs) h = grind (arith, nat_tests, length-dropped t xs)

-- a chain has fewer than 65 numbers
pub chain_short : (ls : Links) (en : Ends) (xs : List ℕ) → IsChain ls en xs → en.count < 65
chain_short ls en xs h = (let s = path_short ls.next en.first xs h.forth in let k = h.count in omega (arith, s, k))

pub chain_filled : (ls : Links) (en : Ends) (xs : List ℕ) (t : ℕ) → IsChain ls en xs → list_any (nat_eq t) xs ≡ true → 0 < en.count
chain_filled ls en xs t h m = (let s = length-dropped t xs m in let k = h.count in omega (arith, s, k))

pub fewer : (ls : Links) (en : Ends) (xs : List ℕ) (t : ℕ) → IsChain ls en xs → list_any (nat_eq t) xs ≡ true → en.count - 1 ≡ length (dropped t xs)
fewer ls en xs t h m = (let s = length-dropped t xs m in let k = h.count in omega (arith, s, k))
