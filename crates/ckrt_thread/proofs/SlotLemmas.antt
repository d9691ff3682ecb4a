-- The slots of the table: a slot read, written, and found free.
use Rattle.std.proofs.Common.{◌≡◌, ℕ, zero, suc, ◌+◌, ◌<◌, Bool, true, false, cond, eqb, not, List, [], ◌∷◌, ◌++◌, length, drop, replicate, Option, Some, None, refl, ap, ◌∙◌, arith, slice_get, slice_set, get_or, is_none}
use Rattle.std.specs.List.{position, position_or_len}
use Rattle.std.specs.Option.{option_flatten}
use Rattle.std.proofs.lemmas.Bool.Decides.{nat_tests}
use Rattle.ckrt_thread.specs.declared.records.Thread.{Thread}
use Rattle.ckrt_thread.specs.declared.records.Thread.TheVariants as thread
use Rattle.ckrt_thread.specs.declared.records.Live.{Live}
use Rattle.ckrt_thread.specs.State.{State, thread_of, change_live, change_thread, is_live_thread, with_slot}

pub slot_read : {X : Type 0} (xs : List (Option X)) (t : ℕ) (d : Option X) → t < length xs → get_or xs t d ≡ option_flatten (slice_get xs t)
slot_read [] t d l = absurd (omega arith)
slot_read (x ∷ xs) zero d l = refl
slot_read (x ∷ xs) (suc t) d l = slot_read xs t d (omega arith)

pub live_below : (ts : List (Option Thread)) (t : ℕ) → is_live_thread (option_flatten (slice_get ts t)) ≡ true → t < length ts
live_below [] t h = absurd (cc)
live_below (x ∷ ts) zero h = omega arith
live_below (x ∷ ts) (suc t) h = omega (arith, live_below ts t h)

-- a slot after a write
pub slot_at : {X : Type 0} (xs : List (Option X)) (t q : ℕ) (y : Option X) → t < length xs → option_flatten (slice_get (slice_set xs t y) q) ≡ cond (eqb t q) y (option_flatten (slice_get xs q))
slot_at [] t q y l = absurd (omega arith)
slot_at (x ∷ xs) zero zero y l = grind (arith, nat_tests)
slot_at (x ∷ xs) zero (suc q) y l = grind (arith, nat_tests)
slot_at (x ∷ xs) (suc t) zero y l = grind (arith, nat_tests)
slot_at (x ∷ xs) (suc t) (suc q) y l = grind (arith, nat_tests, slot_at xs t q y)

-- a slot after a write of another
pub slot_elsewhere : {X : Type 0} (xs : List (Option X)) (t q : ℕ) (y : Option X) → eqb t q ≡ false → option_flatten (slice_get (slice_set xs t y) q) ≡ option_flatten (slice_get xs q)
slot_elsewhere [] t q y n = refl
slot_elsewhere (x ∷ xs) zero zero y n = absurd (cc)
slot_elsewhere (x ∷ xs) zero (suc q) y n = refl
slot_elsewhere (x ∷ xs) (suc t) zero y n = refl
slot_elsewhere (x ∷ xs) (suc t) (suc q) y n = slot_elsewhere xs t q y (grind (arith, nat_tests, n))

-- a question about a choice
pub cond_of : {X Y : Type 0} (f : X → Y) (b : Bool) (x y : X) → f (cond b x y) ≡ cond b (f x) (f y)
cond_of f true x y = refl
cond_of f false x y = refl

-- a question about a slot after a write
pub asked_at : {Y : Type 0} (f : Option Thread → Y) (s : State) (t q : ℕ) (y : Option Thread) → t < length s.threads → f (thread_of (with_slot t y s) q) ≡ cond (eqb t q) (f y) (f (thread_of s q))
asked_at f s t q y l = ap f (slot_at s.threads t q y l) ∙ cond_of f (eqb t q) y (thread_of s q)

-- what stands for a thread after a change of another or of this one
pub changed_at : (f : Live → Live) (ts : List (Option Thread)) (t q : ℕ) → option_flatten (slice_get (change_thread f t ts) q) ≡ cond (eqb t q) (change_live f (option_flatten (slice_get ts q))) (option_flatten (slice_get ts q))
changed_at f [] t q = grind (arith, nat_tests)
changed_at f (x ∷ ts) zero zero = grind (arith, nat_tests)
changed_at f (x ∷ ts) zero (suc q) = grind (arith, nat_tests)
changed_at f (x ∷ ts) (suc t) zero = grind (arith, nat_tests)
changed_at f (x ∷ ts) (suc t) (suc q) = grind (arith, nat_tests, changed_at f ts t q)

same_cond : {Y : Type 0} (b : Bool) (x y : Y) → x ≡ y → cond b x y ≡ y
same_cond true x y e = e
same_cond false x y e = refl

-- a question whose answer a change keeps
pub kept_at : {Y : Type 0} (g : Option Thread → Y) (f : Live → Live) (ts : List (Option Thread)) (t q : ℕ) → ((o : Option Thread) → g (change_live f o) ≡ g o) → g (option_flatten (slice_get (change_thread f t ts) q)) ≡ g (option_flatten (slice_get ts q))
kept_at g f ts t q k =
    ap g (changed_at f ts t q)
    ∙ cond_of g (eqb t q) (change_live f (option_flatten (slice_get ts q))) (option_flatten (slice_get ts q))
    ∙ same_cond (eqb t q) (g (change_live f (option_flatten (slice_get ts q)))) (g (option_flatten (slice_get ts q))) (k (option_flatten (slice_get ts q)))

pub live_change : (f : Live → Live) (o : Option Thread) → is_live_thread (change_live f o) ≡ is_live_thread o
live_change f None = refl
live_change f (Some (thread.Ended v)) = refl
live_change f (Some (thread.Live l)) = refl

-- the first slot that is free

not_cond : (b : Bool) (m n : ℕ) → cond (not b) m n ≡ cond b n m
not_cond true m n = refl
not_cond false m n = refl

position_or_len-cons : {X : Type 0} (p : X → Bool) (x : X) (xs : List X) → position_or_len p (x ∷ xs) ≡ cond (p x) 0 (1 + position_or_len p xs)
position_or_len-cons p x xs = not_cond (p x) (1 + position_or_len p xs) 0

none_at : {X : Type 0} (xs : List (Option X)) (i : ℕ) → i ≡ position_or_len is_none xs → i < length xs → slice_get xs i ≡ Some None
none_at [] i e l = absurd (omega arith)
none_at (None ∷ xs) zero e l = refl
none_at (None ∷ xs) (suc i) e l = absurd (let p = position_or_len-cons is_none None xs in grind (arith, nat_tests))
none_at (Some x ∷ xs) zero e l = absurd (let p = position_or_len-cons is_none (Some x) xs in grind (arith, nat_tests))
none_at (Some x ∷ xs) (suc i) e l = none_at xs i (let p = position_or_len-cons is_none (Some x) xs in grind (arith, nat_tests)) (omega arith)

free_none : {X : Type 0} (xs : List (Option X)) (i : ℕ) → position is_none xs ≡ Some i → slice_get xs i ≡ Some None
free_none xs i e =
    let f : i ≡ position_or_len is_none xs → i < length xs → slice_get xs i ≡ Some None = none_at xs i in
    grind (arith, nat_tests, f)

dropped : {X : Type 0} (xs : List X) (i : ℕ) → slice_get (drop 1 xs) i ≡ slice_get xs (i + 1)
dropped [] i = refl
dropped (x ∷ xs) i = grind (arith, nat_tests)

pub free_slot_none : {X : Type 0} (xs : List (Option X)) (i : ℕ) → position is_none (drop 1 xs) ≡ Some i → slice_get xs (i + 1) ≡ Some None
free_slot_none xs i e = grind (arith, nat_tests, dropped xs i, free_none (drop 1 xs) i e)

-- a slot of an empty table
pub empty_slot : {X : Type 0} (n t : ℕ) → let o : Option X = option_flatten (slice_get (replicate n None) t) in o ≡ None
empty_slot zero t = refl
empty_slot (suc n) zero = refl
empty_slot (suc n) (suc t) = empty_slot n t

-- a list of equal elements with one more
pub one_more : {X : Type 0} (n : ℕ) (x : X) → replicate n x ++ x ∷ [] ≡ replicate (suc n) x
one_more zero x = refl
one_more (suc n) x = ap (λ xs. x ∷ xs) (one_more n x)
