-- The harts: a thread taken off, and a thread put on.
use Rattle.std.proofs.Common.{◌≡◌, ℕ, zero, suc, ◌+◌, ◌≤◌, ◌<◌, cond, eqb, List, [], ◌∷◌, length, map, replicate, Option, Some, None, refl, arith, slice_get, slice_set}
use Rattle.std.specs.Option.{option_flatten}
use Rattle.std.proofs.lemmas.Bool.Decides.{nat_tests}
use Rattle.ckrt_thread.specs.State.{holds, off, count_of}

-- no hart holds a thread that was taken off, and each other as before
pub count_of-off : (t q : ℕ) (hs : List (Option ℕ)) → count_of (holds q) (map (off t) hs) ≡ cond (eqb t q) 0 (count_of (holds q) hs)
count_of-off t q [] = grind (arith, nat_tests)
count_of-off t q (None ∷ hs) = grind (arith, nat_tests, count_of-off t q hs)
count_of-off t q (Some u ∷ hs) = grind (arith, nat_tests, count_of-off t q hs)

pub idle_off : (t : ℕ) (hs : List (Option ℕ)) (i : ℕ) → option_flatten (slice_get hs i) ≡ None → option_flatten (slice_get (map (off t) hs) i) ≡ None
idle_off t [] i e = refl
idle_off t (None ∷ hs) zero e = refl
idle_off t (Some u ∷ hs) zero e = absurd (cc)
idle_off t (x ∷ hs) (suc i) e = idle_off t hs i e

-- a hart after a thread was put on it
pub count_of-put : (hs : List (Option ℕ)) (h t q : ℕ) → h < length hs → count_of (holds q) (slice_set hs h (Some t)) ≤ cond (eqb t q) 1 0 + count_of (holds q) hs
count_of-put [] h t q l = absurd (omega arith)
count_of-put (x ∷ hs) zero t q l = grind (arith, nat_tests)
count_of-put (x ∷ hs) (suc h) t q l = grind (arith, nat_tests, count_of-put hs h t q)

pub idle_put : (hs : List (Option ℕ)) (h i t : ℕ) → h < i → option_flatten (slice_get hs i) ≡ None → option_flatten (slice_get (slice_set hs h (Some t)) i) ≡ None
idle_put [] h i t l e = refl
idle_put (x ∷ hs) zero zero t l e = absurd (omega arith)
idle_put (x ∷ hs) zero (suc i) t l e = e
idle_put (x ∷ hs) (suc h) zero t l e = absurd (omega arith)
idle_put (x ∷ hs) (suc h) (suc i) t l e = idle_put hs h i t (omega arith) e

pub held_at : (hs : List (Option ℕ)) (h t : ℕ) → option_flatten (slice_get hs h) ≡ Some t → 1 ≤ count_of (holds t) hs
held_at [] h t e = absurd (cc)
held_at (x ∷ hs) zero t e = (let x_is : x ≡ Some t = e in rw x_is (grind (arith, nat_tests)))
held_at (x ∷ hs) (suc h) t e = (let i = held_at hs h t e in omega arith)

pub none_held : (n t : ℕ) → count_of (holds t) (replicate n None) ≡ 0
none_held zero t = refl
none_held (suc n) t = omega (arith, none_held n t)
