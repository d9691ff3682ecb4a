-- Read counts by thread, and one of them set.
use Rattle.std.proofs.Common.{◌≡◌, ℕ, zero, suc, ◌≤◌, ◌<◌, eqb, nat_lt, nat_le, Bool, true, false, List, [], ◌∷◌, length, replicate, refl, arith, slice_index_or, slice_set}
use Rattle.std.specs.List.{list_any, list_all}
use Rattle.std.proofs.lemmas.Bool.Decides.{nat_tests}
use Rattle.std.proofs.lemmas.List.{length-set}
use Rattle.ckrt_rwlock.specs.RwLock.{are_proper_counts}

pub other_count : (ns : List ℕ) (t u n : ℕ) → eqb t u ≡ false → slice_index_or (slice_set ns t n) u 0 ≡ slice_index_or ns u 0
other_count [] t u n e = refl
other_count (m ∷ ns) zero zero n e = absurd (grind (arith, nat_tests))
other_count (m ∷ ns) zero (suc u) n e = refl
other_count (m ∷ ns) (suc t) zero n e = refl
other_count (m ∷ ns) (suc t) (suc u) n e = other_count ns t u n (grind (arith, nat_tests))

pub own_count : (ns : List ℕ) (t n : ℕ) → t < length ns → slice_index_or (slice_set ns t n) t 0 ≡ n
own_count [] t n l = absurd (omega arith)
own_count (m ∷ ns) zero n l = refl
own_count (m ∷ ns) (suc t) n l = own_count ns t n (omega arith)

-- who has a read lock reads
pub any_count : (ns : List ℕ) (t : ℕ) → nat_lt 0 (slice_index_or ns t 0) ≡ true → list_any (nat_lt 0) ns ≡ true
any_count [] t h = absurd (grind (arith, nat_tests))
any_count (m ∷ ns) zero h = grind (arith, nat_tests)
any_count (m ∷ ns) (suc t) h = grind (arith, nat_tests, any_count ns t h)

pub any_set : (ns : List ℕ) (t n : ℕ) → t < length ns → 0 < n → list_any (nat_lt 0) (slice_set ns t n) ≡ true
any_set [] t n l h = absurd (omega arith)
any_set (m ∷ ns) zero n l h = grind (arith, nat_tests)
any_set (m ∷ ns) (suc t) n l h = grind (arith, nat_tests, any_set ns t n (omega arith) h)

all_set : (p : ℕ → Bool) (ns : List ℕ) (t n : ℕ) → p n ≡ true → list_all p ns ≡ true → list_all p (slice_set ns t n) ≡ true
all_set p [] t n h k = k
all_set p (m ∷ ns) zero n h k = grind (arith, nat_tests)
all_set p (m ∷ ns) (suc t) n h k = grind (arith, nat_tests, all_set p ns t n h)

pub proper_set : (ns : List ℕ) (t n : ℕ) → are_proper_counts ns ≡ true → 0 < t → n ≤ 65535 → are_proper_counts (slice_set ns t n) ≡ true
proper_set ns t n h l u =
    let size = length-set ns t n in
    let first = other_count ns t 0 n (grind (arith, nat_tests)) in
    let all = all_set (λ m. nat_le m 65535) ns t n (grind (arith, nat_tests)) in
    grind (arith, nat_tests, size, first, all)

count_below : (ns : List ℕ) (t : ℕ) → list_all (λ m. nat_le m 65535) ns ≡ true → slice_index_or ns t 0 ≤ 65535
count_below [] t h = omega arith
count_below (m ∷ ns) zero h = grind (arith, nat_tests)
count_below (m ∷ ns) (suc t) h = count_below ns t (grind (arith, nat_tests))

pub proper_count : (ns : List ℕ) (t : ℕ) → are_proper_counts ns ≡ true → slice_index_or ns t 0 ≤ 65535
proper_count ns t h = count_below ns t (grind (arith, nat_tests))

pub proper_size : (ns : List ℕ) → are_proper_counts ns ≡ true → length ns ≡ 65
proper_size ns h = grind (arith, nat_tests)

-- nobody has a read lock
pub none_set : (ns : List ℕ) (n : ℕ) → length ns ≡ n → list_any (nat_lt 0) ns ≡ false → ns ≡ replicate n 0
none_set [] zero l h = refl
none_set [] (suc n) l h = absurd (omega arith)
none_set (m ∷ ns) zero l h = absurd (omega arith)
none_set (m ∷ ns) (suc n) l h =
    let head : m ≡ 0 = grind (arith, nat_tests) in
    let tail : ns ≡ replicate n 0 = none_set ns n (omega arith) (grind (arith, nat_tests)) in
    rw (head, tail) refl

small_counts : (ns : List ℕ) → ((i : ℕ) → slice_index_or ns i 0 ≤ 65535) → list_all (λ m. nat_le m 65535) ns ≡ true
small_counts [] f = refl
small_counts (m ∷ ns) f = (let first = f 0 in let rest = small_counts ns (λ i. f (suc i)) in grind (arith, nat_tests, first, rest))

-- 65 numbers of 16 bits are proper counts where the first is 0
pub are_proper : (ns : List ℕ) → length ns ≡ 65 → ((i : ℕ) → slice_index_or ns i 0 ≤ 65535) → eqb (slice_index_or ns 0 0) 0 ≡ are_proper_counts ns
are_proper ns l f = (let small = small_counts ns f in grind (arith, nat_tests, l, small))
