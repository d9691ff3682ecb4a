-- Writing one part behind another.
use Rattle.std.proofs.Common.{◌≡◌, ℕ, zero, suc, refl, ◌-◌, ◌*◌, ◌+◌, ◌≤◌, ◌<◌, List, [], ◌∷◌, ◌++◌, length, get_or, take, drop, sym, ap, subst, ◌∙◌, append_assoc, length-append, arith}
use Rattle.std.proofs.lemmas.List.{take_more, append-nil, drop-drop, take_all, take-append-drop}
use Rattle.std.proofs.lemmas.Grind.{flat_map-append}
use Rattle.std.specs.List.{flat_map}
use Rattle.std.specs.List.{range_with_len}
use Rattle.ckrt_tables.proofs.Rows.{range_more, from_next, from_le}
use Rattle.ckrt_registers.specs.Registers.{Registers}
use Rattle.ckrt_tables.specs.Records.{register_bytes}
use Rattle.ckrt_tables.specs.Writing.{IsPut}

-- what is written next
pub put_next : (old : List ℕ) (at : ℕ) (bytes now : List ℕ) (mid : ℕ) (more new : List ℕ) (end : ℕ)
    → IsPut old at bytes now mid → IsPut now mid more new end → IsPut old at (bytes ++ more) new end
put_next old at bytes now mid more new end first next =
    let all : length (bytes ++ more) ≡ length bytes + length more = length-append bytes more in
    let behind : (xs : List ℕ) → drop end xs ≡ drop (length more) (drop mid xs) = λ xs. ap (λ n. drop n xs) next.size ∙ sym (drop-drop (length more) mid xs) in
    record {
      size = omega (arith, first.size, next.size, all);
      front = next.front ∙ ap (λ xs. xs ++ more) first.front ∙ append_assoc (take at old) bytes more;
      back = next.back ∙ behind now ∙ ap (λ xs. drop (length more) xs) first.back ∙ sym (behind old);
    }

-- the records so far, and one more
pub parts_more : {X : Type 0} (head : List ℕ) (each : X → List ℕ) (xs : List X) (i : ℕ) (d : X) → i < length xs
    → head ++ flat_map each (take (i + 1) xs) ≡ (head ++ flat_map each (take i xs)) ++ each (get_or xs i d)
parts_more head each xs i d lt =
    let x = get_or xs i d in
    ap (λ l. head ++ flat_map each l) (take_more xs i d lt)
    ∙ ap (λ l. head ++ l) (flat_map-append each (take i xs) (x ∷ []) ∙ ap (λ l. flat_map each (take i xs) ++ l) (append-nil (each x)))
    ∙ sym (append_assoc head (flat_map each (take i xs)) (each x))

pub put_one : {X : Type 0} (old : List ℕ) (at : ℕ) (head : List ℕ) (each : X → List ℕ) (xs : List X) (i : ℕ) (d : X) (now : List ℕ) (mid : ℕ) (new : List ℕ) (end : ℕ) → i < length xs
    → IsPut old at (head ++ flat_map each (take i xs)) now mid → IsPut now mid (each (get_or xs i d)) new end → IsPut old at (head ++ flat_map each (take (i + 1) xs)) new end
put_one old at head each xs i d now mid new end lt first next =
    subst (λ l. IsPut old at l new end) (sym (parts_more head each xs i d lt)) (put_next old at (head ++ flat_map each (take i xs)) now mid (each (get_or xs i d)) new end first next)

-- there is room for one more where there is for all
pub room_for : {X : Type 0} (old : List ℕ) (at : ℕ) (head : List ℕ) (each : X → List ℕ) (xs : List X) (i : ℕ) (d : X) (now : List ℕ) (mid : ℕ) → i < length xs
    → IsPut old at (head ++ flat_map each (take i xs)) now mid → at + length (head ++ flat_map each xs) ≤ length old → mid + length (each (get_or xs i d)) ≤ length old
room_for old at head each xs i d now mid lt first room =
    let x = get_or xs i d in
    let whole : flat_map each xs ≡ flat_map each (take (i + 1) xs) ++ flat_map each (drop (i + 1) xs) = ap (flat_map each) (sym (take-append-drop (i + 1) xs)) ∙ flat_map-append each (take (i + 1) xs) (drop (i + 1) xs) in
    let a : length (head ++ flat_map each xs) ≡ length head + length (flat_map each xs) = length-append head (flat_map each xs) in
    let b : length (flat_map each xs) ≡ length (flat_map each (take (i + 1) xs)) + length (flat_map each (drop (i + 1) xs)) = ap length whole ∙ length-append (flat_map each (take (i + 1) xs)) (flat_map each (drop (i + 1) xs)) in
    let e : length head + length (flat_map each (take (i + 1) xs)) ≡ length (head ++ flat_map each (take i xs)) + length (each x) =
    sym (length-append head (flat_map each (take (i + 1) xs))) ∙ ap length (parts_more head each xs i d lt) ∙ length-append (head ++ flat_map each (take i xs)) (each x) in
    omega (arith, first.size, a, b, e, room)

-- all of them
pub put_all : {X : Type 0} (old : List ℕ) (at : ℕ) (head : List ℕ) (each : X → List ℕ) (xs : List X) (i : ℕ) (new : List ℕ) (end : ℕ) → length xs ≤ i
    → IsPut old at (head ++ flat_map each (take i xs)) new end → IsPut old at (head ++ flat_map each xs) new end
put_all old at head each xs i new end le done = subst (λ l. IsPut old at (head ++ flat_map each l) new end) (take_all i xs le) done

-- there is room for the first of two parts, and then for the second
pub room_first : (at n : ℕ) (bytes more : List ℕ) → at + length (bytes ++ more) ≤ n → at + length bytes ≤ n
room_first at n bytes more room = omega (arith, length-append bytes more, room)

pub room_next : (old : List ℕ) (at n : ℕ) (bytes now more : List ℕ) (mid : ℕ) → IsPut old at bytes now mid → at + length (bytes ++ more) ≤ n → mid + length more ≤ n
room_next old at n bytes now more mid first room = omega (arith, first.size, length-append bytes more, room)

-- the registers from 1 on, up to the one before k, and k
pub registers_more : (r : Registers) (k : ℕ) → 1 ≤ k
    → flat_map (register_bytes r) (range_with_len 1 (k + 1 - 1)) ≡ flat_map (register_bytes r) (range_with_len 1 (k - 1)) ++ register_bytes r k
registers_more r k from =
    let e : k + 1 - 1 ≡ (k - 1) + 1 = omega (arith, from) in
    ap (λ n. flat_map (register_bytes r) (range_with_len 1 n)) e
    ∙ ap (flat_map (register_bytes r)) (range_more 1 (k - 1) k (omega (arith, from)))
    ∙ flat_map-append (register_bytes r) (range_with_len 1 (k - 1)) (k ∷ [])
    ∙ ap (λ l. flat_map (register_bytes r) (range_with_len 1 (k - 1)) ++ l) (append-nil (register_bytes r k))

pub registers_length : (r : Registers) (a n : ℕ) → length (flat_map (register_bytes r) (range_with_len a n)) ≡ 4 * n
registers_length r a zero = refl
registers_length r a (suc n) = let e = registers_length r (a + 1) n in omega (arith, e)

-- What lies at numbers: `each` are the bytes of the element at a number, `from` those of a list whose first element has a
-- number.
module _ {X : Type 0} (each : ℕ → X → List ℕ) (from : ℕ → List X → List ℕ)
    (none : (k : ℕ) → from k [] ≡ []) (some : (k : ℕ) (x : X) (xs : List X) → from k (x ∷ xs) ≡ each k x ++ from (suc k) xs) where
  -- one place more
  pub put_place : (old : List ℕ) (at : ℕ) (head : List ℕ) (xs : List X) (i : ℕ) (d : X) (now : List ℕ) (mid : ℕ) (new : List ℕ) (end : ℕ) → i < length xs
      → IsPut old at (head ++ from 0 (take i xs)) now mid → IsPut now mid (each i (get_or xs i d)) new end → IsPut old at (head ++ from 0 (take (i + 1) xs)) new end
  put_place old at head xs i d now mid new end lt first next =
      let more : head ++ from 0 (take (i + 1) xs) ≡ (head ++ from 0 (take i xs)) ++ each i (get_or xs i d) =
      ap (λ l. head ++ l) (from_next each from none some xs i d lt) ∙ sym (append_assoc head (from 0 (take i xs)) (each i (get_or xs i d))) in
      subst (λ l. IsPut old at l new end) (sym more) (put_next old at (head ++ from 0 (take i xs)) now mid (each i (get_or xs i d)) new end first next)

  -- there is room for one place more where there is for all
  pub room_place : (old : List ℕ) (at : ℕ) (head : List ℕ) (xs : List X) (i : ℕ) (d : X) (now : List ℕ) (mid : ℕ) → i < length xs
      → IsPut old at (head ++ from 0 (take i xs)) now mid → at + length (head ++ from 0 xs) ≤ length old → mid + length (each i (get_or xs i d)) ≤ length old
  room_place old at head xs i d now mid lt first room =
      let a = length-append head (from 0 xs) in
      let b = length-append head (from 0 (take i xs)) in
      let m = ap length (from_next each from none some xs i d lt) in
      let e = length-append (from 0 (take i xs)) (each i (get_or xs i d)) in
      omega (arith, first.size, a, b, m, e, from_le each from none some 0 (i + 1) xs, room)
