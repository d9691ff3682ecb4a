-- Keys, and the values under them.
use Rattle.std.proofs.Common.{◌≡◌, ℕ, zero, suc, ◌+◌, ◌-◌, ◌%◌, ◌≤◌, ◌<◌, ◌==◌, nat_lt, Bool, true, false, cond, ◌&&◌, is_some, subst, List, [], ◌∷◌, length, replicate, Option, Some, None, is_none, unwrap_or, refl, sym, ap, ◌∙◌, arith, slice_get, slice_set, get_or}
use Rattle.std.specs.List.{list_all, find, range_with_len}
use Rattle.std.specs.Option.{option_flatten}
use Rattle.std.proofs.lemmas.Bool.Decides.{nat_tests}
use Rattle.std.proofs.lemmas.List.{length-set}
use Rattle.ckrt_thread.specs.declared.keys.SpecificData.{SpecificData}
use Rattle.ckrt_thread.specs.declared.keys.Turn.{Turn}
use Rattle.ckrt_thread.specs.declared.records.Live.{Live}
use Rattle.ckrt_thread.specs.declared.records.Thread.{Thread}
use Rattle.ckrt_thread.specs.declared.records.Thread.TheVariants as thread
use Rattle.ckrt_thread.specs.Keys.{KeyTable, is_key, destructor_of, with_key, is_aligned_key, are_proper_keys, no_data, is_proper_data, value_under, data_of, HasValuesOf, is_of_key, are_of_keys}
use Rattle.ckrt_thread.specs.Destructors.{is_to_destroy, first_to_destroy, turn_in, rest_of_round, new_round, turn_or, next_turn}
use Rattle.ckrt_thread.specs.State.{is_proper_live, is_proper_slot}

-- both of two facts
pub both : (a b : Bool) → (a && b) ≡ true → (a ≡ true) × (b ≡ true)
both true b e = (refl, e)
both false b e = absurd (cc)

-- A NUMBER IS A KEY, OR IS NONE

all_set : {X : Type 0} (p : X → Bool) (xs : List X) (k : ℕ) (x : X) → list_all p xs ≡ true → p x ≡ true → list_all p (slice_set xs k x) ≡ true
all_set p [] k x h e = h
all_set p (y ∷ xs) zero x h e = grind (arith, nat_tests, h, e)
all_set p (y ∷ xs) (suc k) x h e = (let r = all_set p xs k x in grind (arith, nat_tests, h, e, r))

pub proper_added : (keys : KeyTable) (k d : ℕ) → are_proper_keys keys ≡ true → keys.is_on ≡ true → d % 4 ≡ 0 → are_proper_keys (with_key k (Some d) keys) ≡ true
proper_added keys k d h on a =
    let size = length-set keys.destructors k (Some d) in
    let aligned = all_set is_aligned_key keys.destructors k (Some d) in
    grind (arith, nat_tests, h, on, a, size, aligned)

pub proper_removed : (keys : KeyTable) (k : ℕ) → are_proper_keys keys ≡ true → are_proper_keys (with_key k None keys) ≡ true
proper_removed keys k h =
    let none : Option ℕ = None in
    let size = length-set keys.destructors k none in
    let aligned = all_set is_aligned_key keys.destructors k none in
    let empty = all_set is_none keys.destructors k none in
    grind (arith, nat_tests, h, size, aligned, empty)

-- a destructor is a multiple of 4

aligned_slot : (ds : List (Option ℕ)) (k : ℕ) → list_all is_aligned_key ds ≡ true → (unwrap_or (option_flatten (slice_get ds k)) 0 % 4 == 0) ≡ true
aligned_slot [] k h = refl
aligned_slot (None ∷ ds) zero h = refl
aligned_slot (Some d ∷ ds) zero h = grind (arith, nat_tests, h)
aligned_slot (x ∷ ds) (suc k) h = aligned_slot ds k (grind (arith, nat_tests, h))

pub aligned_destructor : (keys : KeyTable) (k : ℕ) → are_proper_keys keys ≡ true → (destructor_of keys k % 4 == 0) ≡ true
aligned_destructor keys k h = aligned_slot keys.destructors k (grind (arith, nat_tests, h))

-- a key is one of the numbers that there are

some_slot : {X : Type 0} (xs : List (Option X)) (k : ℕ) → is_none (option_flatten (slice_get xs k)) ≡ false → k < length xs
some_slot [] k e = absurd (cc)
some_slot (x ∷ xs) zero e = omega arith
some_slot (x ∷ xs) (suc k) e = (let r = some_slot xs k e in omega (arith, r))

-- VALUES

pub same_all : {X : Type 0} (n k : ℕ) (x : X) → get_or (replicate n x) k x ≡ x
same_all zero k x = refl
same_all (suc n) zero x = refl
same_all (suc n) (suc k) x = same_all n k x

pub no_value : (k : ℕ) → value_under k no_data ≡ 0
no_value k = same_all 32 k 0

-- 0 under one key leaves 0 under another
pub zero_under : (xs : List ℕ) (k i : ℕ) → get_or xs i 0 ≡ 0 → get_or (slice_set xs k 0) i 0 ≡ 0
zero_under [] k i e = e
zero_under (x ∷ xs) zero zero e = refl
zero_under (x ∷ xs) zero (suc i) e = e
zero_under (x ∷ xs) (suc k) zero e = e
zero_under (x ∷ xs) (suc k) (suc i) e = zero_under xs k i e

pub zero_set : (xs : List ℕ) (k : ℕ) → get_or (slice_set xs k 0) k 0 ≡ 0
zero_set [] k = refl
zero_set (x ∷ xs) zero = refl
zero_set (x ∷ xs) (suc k) = zero_set xs k

beyond : (xs : List ℕ) (k : ℕ) → length xs ≤ k → get_or xs k 0 ≡ 0
beyond [] k l = refl
beyond (x ∷ xs) zero l = absurd (omega arith)
beyond (x ∷ xs) (suc k) l = beyond xs k (omega arith)

-- NUMBERS IN A RANGE

in_range : (p : ℕ → Bool) (a n k : ℕ) → list_all p (range_with_len a n) ≡ true → a ≤ k → k < a + n → p k ≡ true
in_range p a zero k h l m = absurd (omega arith)
in_range p a (suc n) k h l m =
    let here : a ≡ k → p k ≡ true = λ e. sym (ap p e) ∙ grind (arith, nat_tests, h) in
    let rest : a < k → p k ≡ true = λ g. in_range p (suc a) n k (grind (arith, nat_tests, h)) (omega arith) (omega arith) in
    grind (arith, nat_tests, here, rest, l)

every : (p : ℕ → Bool) (a n : ℕ) → ((k : ℕ) → p k ≡ true) → list_all p (range_with_len a n) ≡ true
every p a zero f = refl
every p a (suc n) f = (let h = f a in let r = every p (suc a) n f in grind (arith, nat_tests, h, r))

-- the numbers from one on: that one, and those from the next on

numbers_from : (k : ℕ) → k < 32 → range_with_len k (32 - k) ≡ k ∷ range_with_len (k + 1) (32 - (k + 1))
numbers_from k l =
    let more : 32 - k ≡ suc (32 - (k + 1)) = omega arith in
    let next : k + 1 ≡ suc k = omega arith in
    rw (more, next) refl

pub find_next : (p : ℕ → Bool) (k : ℕ) → k < 32 → p k ≡ false → find p (range_with_len k (32 - k)) ≡ find p (range_with_len (k + 1) (32 - (k + 1)))
find_next p k l f = rw (numbers_from k l) (grind (arith, nat_tests, f))

pub all_next : (p : ℕ → Bool) (k : ℕ) → k < 32 → p k ≡ true → list_all p (range_with_len k (32 - k)) ≡ list_all p (range_with_len (k + 1) (32 - (k + 1)))
all_next p k l f = rw (numbers_from k l) (grind (arith, nat_tests, f))

pub not_all : (p : ℕ → Bool) (k : ℕ) → k < 32 → p k ≡ false → list_all p (range_with_len k (32 - k)) ≡ false
not_all p k l f = rw (numbers_from k l) (grind (arith, nat_tests, f))

pub all_done : (p : ℕ → Bool) (k : ℕ) → 32 ≤ k → list_all p (range_with_len k (32 - k)) ≡ true
all_done p k l = (let none : 32 - k ≡ 0 = omega arith in rw none refl)

found_below : (p : ℕ → Bool) (a n k : ℕ) → find p (range_with_len a n) ≡ Some k → k < a + n
found_below p a zero k e = absurd (cc)
found_below p a (suc n) k e =
    let r = found_below p (suc a) n k in
    grind (arith, nat_tests, r, e)

-- WHAT A PROPER THREAD HAS

pub proper_data : (l : Live) → is_proper_live l ≡ true → is_proper_data (is_some l.cancellation.unwinding) l.specific ≡ true
proper_data l h = (both _ (is_proper_data (is_some l.cancellation.unwinding) l.specific) h).1

pub enough_values : (l : Live) → is_proper_live l ≡ true → length l.specific.values ≡ 32
enough_values l h = (let p = proper_data l h in grind (arith, nat_tests, p))

pub few_rounds : (l : Live) → is_proper_live l ≡ true → l.specific.round ≤ 4
few_rounds l h = (let p = proper_data l h in grind (arith, nat_tests, p))

pub next_within : (l : Live) → is_proper_live l ≡ true → l.specific.next_key ≤ 32
next_within l h = (let p = proper_data l h in grind (arith, nat_tests, p))

-- THE TEST THAT A THREAD HAS VALUES ONLY UNDER KEYS

no_other_value : (keys : KeyTable) (d : SpecificData) → length d.values ≡ 32 → are_of_keys keys d ≡ true → (k : ℕ) → is_key keys k ≡ false → value_under k d ≡ 0
no_other_value keys d n h k e =
    elim (nat_lt k 32) as (λ b. nat_lt k 32 ≡ b → value_under k d ≡ 0) [
      | true ↦ λ l.
          let there : is_of_key keys d k ≡ true = in_range (is_of_key keys d) 0 32 k h (omega arith) (grind (arith, nat_tests, l)) in
          grind (arith, nat_tests, there, e)
      | false ↦ λ l. beyond d.values k (grind (arith, nat_tests, l, n))
    ] refl

pub values_of_keys : (keys : KeyTable) (o : Option Thread) → is_proper_slot o ≡ true → are_of_keys keys (data_of o) ≡ true → HasValuesOf keys o
values_of_keys keys None p h = λ k _. no_value k
values_of_keys keys (Some (thread.Ended v)) p h = λ k _. no_value k
values_of_keys keys (Some (thread.Live l)) p h = λ k e. no_other_value keys l.specific (enough_values l p) h k e

pub of_keys : (keys : KeyTable) (o : Option Thread) → HasValuesOf keys o → are_of_keys keys (data_of o) ≡ true
of_keys keys o v = every (is_of_key keys (data_of o)) 0 32 (λ k. (let none = v k in grind (arith, nat_tests, none)))

-- TURNS

pub record IsTurn (turn : Turn) : Type 0 where
  pub begun : 0 < turn.round
  pub few : turn.round ≤ 4
  pub key : turn.key < 32

first_below : (keys : KeyTable) (d : SpecificData) (from k : ℕ) → from ≤ 32 → first_to_destroy keys d from ≡ Some k → k < 32
first_below keys d from k l e = (let r = found_below (is_to_destroy keys d) from (32 - from) k e in omega (arith, r, l))

turn_of_round : (r : ℕ) (o : Option ℕ) (turn : Turn) → 0 < r → r ≤ 4 → ((k : ℕ) → o ≡ Some k → k < 32) → turn_in r o ≡ Some turn → IsTurn turn
turn_of_round r None turn b f i e = absurd (cc)
turn_of_round r (Some k) turn b f i e =
    let same : record { round = r; key = k } ≡ turn = cc in
    subst IsTurn same (record { begun = b; few = f; key = i k refl })

rest_turn : (keys : KeyTable) (d : SpecificData) (turn : Turn) → d.round ≤ 4 → d.next_key ≤ 32 → rest_of_round keys d ≡ Some turn → IsTurn turn
rest_turn keys d turn f n e =
    elim (d.round == 0) as (λ b. (d.round == 0) ≡ b → cond b None (turn_in d.round (first_to_destroy keys d d.next_key)) ≡ Some turn → IsTurn turn) [
      | true ↦ λ _ x. absurd (cc)
      | false ↦ λ z x. turn_of_round d.round (first_to_destroy keys d d.next_key) turn (grind (arith, nat_tests, z)) f (λ k y. first_below keys d d.next_key k n y) x
    ] refl e

new_turn : (keys : KeyTable) (d : SpecificData) (turn : Turn) → new_round keys d ≡ Some turn → IsTurn turn
new_turn keys d turn e =
    elim (nat_lt d.round 4) as (λ b. nat_lt d.round 4 ≡ b → cond b (turn_in (suc d.round) (first_to_destroy keys d 0)) None ≡ Some turn → IsTurn turn) [
      | true ↦ λ l x. turn_of_round (suc d.round) (first_to_destroy keys d 0) turn (omega arith) (grind (arith, nat_tests, l)) (λ k y. first_below keys d 0 k (omega arith) y) x
      | false ↦ λ l x. absurd (cc)
    ] refl e

pub is_turn : (keys : KeyTable) (d : SpecificData) (turn : Turn) → d.round ≤ 4 → d.next_key ≤ 32 → next_turn keys d ≡ Some turn → IsTurn turn
is_turn keys d turn f n e =
    elim (rest_of_round keys d) as (λ o. rest_of_round keys d ≡ o → turn_or o (new_round keys d) ≡ Some turn → IsTurn turn) [
      | None ↦ λ _ x. new_turn keys d turn x
      | Some t ↦ λ r x. rest_turn keys d turn f n (r ∙ x)
    ] refl e
