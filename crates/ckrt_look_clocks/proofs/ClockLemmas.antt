-- What clocks say: of each holder and each thread, a moment.
use Rattle.std.proofs.Common.{◌≡◌, ◌≢◌, ◌≤◌, ◌<◌, ℕ, zero, suc, max, nat_lt, ◌==◌, ◌||◌, Bool, true, false, List, [], ◌∷◌, length, get_or, slice_set, replicate, refl, sym, ap, ◌∙◌, subst, arith}
use Rattle.std.proofs.lemmas.Bool.Decides.{nat_tests}
use Rattle.std.proofs.lemmas.List.{get_or-set_same, get_or-set_other, length-set}
use Rattle.ckrt_look_clocks.specs.declared.operation.Place.{Place}
use Rattle.ckrt_look_clocks.specs.declared.operation.TheConstants.{THREADS}
use Rattle.ckrt_look_clocks.specs.declared.clock.Clock.{Clock}
use Rattle.ckrt_look_clocks.specs.Histories.{is_before, moment}
use Rattle.ckrt_look_clocks.specs.Detection.{clock_at, clock_of, joined, later, no_clock, nothing, passed}
use Rattle.ckrt_look_clocks.proofs.ListLemmas.{chosen, passed_over}

-- the moment before which a holder has seen the accesses of a thread
abbrev pub time : List Clock → (h u : ℕ) → ℕ
time cs h u = moment (get_or (clock_of h cs).seen u nothing)

-- the same of what it passes on
abbrev pub time_at : ℕ → Place → List Clock → (u : ℕ) → ℕ
time_at from p cs u = moment (get_or (clock_at from p cs).seen u nothing)

-- there are clocks of n holders, each with a place for each thread
pub record AreClocks (n : ℕ) (cs : List Clock) : Type 0 where
  pub holders : length cs ≡ n
  pub sizes : (h : ℕ) → length (clock_of h cs).seen ≡ THREADS

-- TESTS

pub is_same : (a b : ℕ) → (a == b) ≡ true → a ≡ b
is_same a b e = grind (arith, nat_tests, e)

pub is_other : (a b : ℕ) → (a == b) ≡ false → a ≢ b
is_other a b e = λ same. (let no : (a == b) ≡ true = grind (arith, nat_tests, same) in absurd (cc))

pub same_test : (a b : ℕ) → a ≡ b → (a == b) ≡ true
same_test a b e = grind (arith, nat_tests, e)

pub other_test : (a b : ℕ) → a ≢ b → (a == b) ≡ false
other_test a b e = grind (arith, nat_tests, e)

pub lt_max : (m a b : ℕ) → nat_lt m (max a b) ≡ (nat_lt m a || nat_lt m b)
lt_max m a b = grind (arith, nat_tests)

pub less_test : (m a : ℕ) → m < a → nat_lt m a ≡ true
less_test m a l = grind (arith, nat_tests, l)

pub not_less_test : (m a : ℕ) → a ≤ m → nat_lt m a ≡ false
not_less_test m a l = grind (arith, nat_tests, l)

-- JOINED

later_moment : (p q : Place) → moment (later p q) ≡ max (moment p) (moment q)
later_moment p q = go (nat_lt (moment p) (moment q)) refl
  where
    go : (t : Bool) → nat_lt (moment p) (moment q) ≡ t → moment (later p q) ≡ max (moment p) (moment q)
    go true e = ap moment (chosen (is_before p q) q p e) ∙ grind (arith, nat_tests, e)
    go false e = ap moment (passed_over (is_before p q) q p e) ∙ grind (arith, nat_tests, e)

pub joined_moment : (xs ys : List Place) (u : ℕ) → moment (get_or (joined xs ys) u nothing) ≡ max (moment (get_or xs u nothing)) (moment (get_or ys u nothing))
joined_moment [] ys u = omega arith
joined_moment (x ∷ xs) [] u = omega arith
joined_moment (x ∷ xs) (y ∷ ys) zero = later_moment x y
joined_moment (x ∷ xs) (y ∷ ys) (suc u) = joined_moment xs ys u

joined_length : (xs ys : List Place) → length xs ≡ length ys → length (joined xs ys) ≡ length xs
joined_length [] [] e = refl
joined_length [] (y ∷ ys) e = absurd (omega (arith, e))
joined_length (x ∷ xs) [] e = refl
joined_length (x ∷ xs) (y ∷ ys) e = ap suc (joined_length xs ys (omega (arith, e)))

-- WHAT A HOLDER PASSES ON

at_length : (n from : ℕ) (p : Place) (cs : List Clock) → AreClocks n cs → length (clock_at from p cs).seen ≡ THREADS
at_length n from p cs are = go (nat_lt from THREADS) refl
  where
    go : (t : Bool) → nat_lt from THREADS ≡ t → length (clock_at from p cs).seen ≡ THREADS
    go true e = ap (λ (c : Clock). length c.seen) (chosen (nat_lt from THREADS) (record { seen = slice_set (clock_of from cs).seen from p }) (clock_of from cs) e) ∙ length-set (clock_of from cs).seen from p ∙ are.sizes from
    go false e = ap (λ (c : Clock). length c.seen) (passed_over (nat_lt from THREADS) (record { seen = slice_set (clock_of from cs).seen from p }) (clock_of from cs) e) ∙ are.sizes from

-- of itself, all before this place
pub own_time : (n from : ℕ) (p : Place) (cs : List Clock) → AreClocks n cs → from < THREADS → time_at from p cs from ≡ moment p
own_time n from p cs are is_thread =
    ap (λ (c : Clock). moment (get_or c.seen from nothing)) (chosen (nat_lt from THREADS) (record { seen = slice_set (clock_of from cs).seen from p }) (clock_of from cs) (less_test from THREADS is_thread))
    ∙ ap moment (get_or-set_same (clock_of from cs).seen from p nothing (omega (arith, are.sizes from, is_thread)))

-- of another thread, what it has seen
pub other_time : (from : ℕ) (p : Place) (cs : List Clock) (u : ℕ) → u ≢ from → time_at from p cs u ≡ time cs from u
other_time from p cs u other = go (nat_lt from THREADS) refl
  where
    go : (t : Bool) → nat_lt from THREADS ≡ t → time_at from p cs u ≡ time cs from u
    go true e = ap (λ (c : Clock). moment (get_or c.seen u nothing)) (chosen (nat_lt from THREADS) (record { seen = slice_set (clock_of from cs).seen from p }) (clock_of from cs) e)
        ∙ ap moment (get_or-set_other (clock_of from cs).seen from u p nothing other)
    go false e = ap (λ (c : Clock). moment (get_or c.seen u nothing)) (passed_over (nat_lt from THREADS) (record { seen = slice_set (clock_of from cs).seen from p }) (clock_of from cs) e)

-- at most what it has seen, or this place
pub at_most : (n from : ℕ) (p : Place) (cs : List Clock) (u m : ℕ) → AreClocks n cs → time cs from u ≤ m → moment p ≤ m → time_at from p cs u ≤ m
at_most n from p cs u m are low place = go (u == from) refl
  where
    beyond : THREADS ≤ from → time_at from p cs u ≤ m
    beyond le = (let e = passed_over (nat_lt from THREADS) (record { seen = slice_set (clock_of from cs).seen from p }) (clock_of from cs) (not_less_test from THREADS le) in
        subst (λ (c : Clock). moment (get_or c.seen u nothing) ≤ m) (sym e) low)

    own : u ≡ from → (t : Bool) → nat_lt from THREADS ≡ t → time_at from p cs u ≤ m
    own same true e = (let is_thread : from < THREADS = grind (arith, nat_tests, e) in
        subst (λ v. time_at from p cs v ≤ m) (sym same) (omega (arith, own_time n from p cs are is_thread, place)))
    own same false e = beyond (grind (arith, nat_tests, e))

    go : (t : Bool) → (u == from) ≡ t → time_at from p cs u ≤ m
    go true e = own (is_same u from e) (nat_lt from THREADS) refl
    go false e = omega (arith, other_time from p cs u (is_other u from e), low)

-- WHAT IS PASSED

-- who gets it
pub passed_time : (n from to : ℕ) (p : Place) (cs : List Clock) (u : ℕ) → AreClocks n cs → to < n → time (passed from to p cs) to u ≡ max (time cs to u) (time_at from p cs u)
passed_time n from to p cs u are there =
    ap (λ (c : Clock). moment (get_or c.seen u nothing)) (get_or-set_same cs to (record { seen = joined (clock_of to cs).seen (clock_at from p cs).seen }) no_clock (omega (arith, are.holders, there)))
    ∙ joined_moment (clock_of to cs).seen (clock_at from p cs).seen u

-- and the others
pub kept_time : (from to : ℕ) (p : Place) (cs : List Clock) (h u : ℕ) → h ≢ to → time (passed from to p cs) h u ≡ time cs h u
kept_time from to p cs h u other =
    ap (λ (c : Clock). moment (get_or c.seen u nothing)) (get_or-set_other cs to h (record { seen = joined (clock_of to cs).seen (clock_at from p cs).seen }) no_clock other)

pub are_passed : (n from to : ℕ) (p : Place) (cs : List Clock) → AreClocks n cs → to < n → AreClocks n (passed from to p cs)
are_passed n from to p cs are there = record { holders = length-set cs to new ∙ are.holders; sizes = λ h. size h (h == to) refl }
  where
    new : Clock
    new = record { seen = joined (clock_of to cs).seen (clock_at from p cs).seen }

    new_size : length new.seen ≡ THREADS
    new_size = joined_length (clock_of to cs).seen (clock_at from p cs).seen (are.sizes to ∙ sym (at_length n from p cs are)) ∙ are.sizes to

    size : (h : ℕ) (t : Bool) → (h == to) ≡ t → length (clock_of h (passed from to p cs)).seen ≡ THREADS
    size h true e = subst (λ k. length (clock_of k (passed from to p cs)).seen ≡ THREADS) (sym (is_same h to e))
        (ap (λ (c : Clock). length c.seen) (get_or-set_same cs to new no_clock (omega (arith, are.holders, there))) ∙ new_size)
    size h false e = ap (λ (c : Clock). length c.seen) (get_or-set_other cs to h new no_clock (is_other h to e)) ∙ are.sizes h

-- AT FIRST

fresh_clock : (n h : ℕ) → clock_of h (replicate n no_clock) ≡ no_clock
fresh_clock zero h = refl
fresh_clock (suc n) zero = refl
fresh_clock (suc n) (suc h) = fresh_clock n h

fresh_place : (n u : ℕ) → get_or (replicate n nothing) u nothing ≡ nothing
fresh_place zero u = refl
fresh_place (suc n) zero = refl
fresh_place (suc n) (suc u) = fresh_place n u

replicate_length : {X : Type 0} (n : ℕ) (x : X) → length (replicate n x) ≡ n
replicate_length zero x = refl
replicate_length (suc n) x = ap suc (replicate_length n x)

pub fresh_time : (n h u : ℕ) → time (replicate n no_clock) h u ≡ 0
fresh_time n h u = ap (λ (c : Clock). moment (get_or c.seen u nothing)) (fresh_clock n h) ∙ ap moment (fresh_place 65 u)

pub are_fresh : (n : ℕ) → AreClocks n (replicate n no_clock)
are_fresh n = record {
  holders = replicate_length n no_clock;
  sizes = λ h. ap (λ (c : Clock). length c.seen) (fresh_clock n h) ∙ replicate_length 65 nothing;
}
