-- Parts that take a slot, and where words may differ.
use Rattle.std.proofs.Common.{◌≡◌, ◌⊎◌, inl, inr, ◌≤◌, ◌<◌, ℕ, ◌+◌, ◌-◌, ◌/◌, ◌%◌, ◌==◌, min, nat_lt, Bool, true, false, if◌then◌else◌, List, length, map, get_or, slice_set, refl, sym, ap, ◌∙◌, true≢false, arith}
use Rattle.std.proofs.lemmas.Bool.{cases_eq, cases_lt}
use Rattle.std.proofs.lemmas.Bool.Decides.{nat_tests}
use Rattle.std.proofs.lemmas.List.{get_or-set_other, get_or-set_same, length-set}
use Rattle.ckrt_look_heap.specs.declared.block.Cell.{Cell}
use Rattle.ckrt_look_heap.specs.declared.parts.Told.{Told}
use Rattle.ckrt_look_heap.specs.declared.parts.Told.TheVariants as told
use Rattle.ckrt_look_heap.specs.Parts.{IsSplitAt, Room, has_own, room_of, split, split_at, split_for, taking}
use Rattle.ckrt_look_heap.proofs.ListLemmas.{chosen, passed_over}
use Rattle.ckrt_look_heap.proofs.PartLemmas.{has_get, has_set, none, one_taken}

-- A PART WITHOUT A SLOT takes one
pub split_left : (b : List Told) (taken count p : ℕ) (full : Bool) (x : Cell) → get_or b p none ≡ told.Same x → taken < count
    → room_of (slice_set b p (told.Each taken)) (taken + 1) count full ≡ split p (room_of b taken count full)
split_left b taken count p full x same left =
    let r : Room = room_of b taken count full in
    ap (λ (h : List Bool). (let q : Room = record { has = h; taken = taken + 1; count = count; is_full = full } in q)) (has_set b p taken)
    ∙ sym (chosen (nat_lt taken count) (one_taken r p) (record r { is_full = true }) (grind (arith, nat_tests, left)))
    ∙ sym (passed_over (get_or (map has_own b) p false) r (taking p r) (has_get b p ∙ ap has_own same))

-- or the room is used up
pub split_none : (b : List Told) (taken count p : ℕ) (full : Bool) (x : Cell) → get_or b p none ≡ told.Same x → count ≤ taken
    → room_of b taken count true ≡ split p (room_of b taken count full)
split_none b taken count p full x same all =
    let r : Room = room_of b taken count full in
    sym (passed_over (nat_lt taken count) (one_taken r p) (record r { is_full = true }) (grind (arith, nat_tests, all)))
    ∙ sym (passed_over (get_or (map has_own b) p false) r (taking p r) (has_get b p ∙ ap has_own same))

-- One that has a slot keeps it
pub split_has : (b : List Told) (taken count p slot : ℕ) (full : Bool) → get_or b p none ≡ told.Each slot → room_of b taken count full ≡ split p (room_of b taken count full)
split_has b taken count p slot full each =
    let r : Room = room_of b taken count full in
    sym (chosen (get_or (map has_own b) p false) r (taking p r) (has_get b p ∙ ap has_own each))

-- WHERE IT ISN'T USED UP words may differ then

true_false : true ≡ false → ⊥
true_false e = true≢false e

has_now : (p : ℕ) (r : Room) → p < length r.has → (split p r).is_full ≡ false → get_or (split p r).has p false ≡ true
has_now p r inside = go (get_or r.has p false) refl
  where
    on : (t : Bool) → nat_lt r.taken r.count ≡ t → (taking p r).is_full ≡ false → get_or (taking p r).has p false ≡ true
    on true e left = ap (λ (q : Room). get_or q.has p false) (chosen (nat_lt r.taken r.count) (one_taken r p) (record r { is_full = true }) e) ∙ get_or-set_same r.has p true false inside
    on false e left = absurd (true_false (sym (ap (λ (q : Room). q.is_full) (passed_over (nat_lt r.taken r.count) (one_taken r p) (record r { is_full = true }) e)) ∙ left))

    go : (t : Bool) → get_or r.has p false ≡ t → (split p r).is_full ≡ false → get_or (split p r).has p false ≡ true
    go true e left = ap (λ (q : Room). get_or q.has p false) (chosen (get_or r.has p false) r (taking p r) e) ∙ e
    go false e left =
        let is : split p r ≡ taking p r = passed_over (get_or r.has p false) r (taking p r) e in
        ap (λ (q : Room). get_or q.has p false) is ∙ on (nat_lt r.taken r.count) refl (sym (ap (λ (q : Room). q.is_full) is) ∙ left)

set_stays : (b : List Bool) (p q : ℕ) → get_or b q false ≡ true → p < length b → get_or (slice_set b p true) q false ≡ true
set_stays b p q has inside = elim (cases_eq q p) [
  | inl e ↦ ap (λ k. get_or (slice_set b p true) k false) e ∙ get_or-set_same b p true false inside
  | inr other ↦ get_or-set_other b p q true false other ∙ has
]

still_has : (p q : ℕ) (r : Room) → p < length r.has → get_or r.has q false ≡ true → get_or (split p r).has q false ≡ true
still_has p q r inside has = go (get_or r.has p false) refl
  where
    on : (t : Bool) → nat_lt r.taken r.count ≡ t → get_or (taking p r).has q false ≡ true
    on true e = ap (λ (x : Room). get_or x.has q false) (chosen (nat_lt r.taken r.count) (one_taken r p) (record r { is_full = true }) e) ∙ set_stays r.has p q has inside
    on false e = ap (λ (x : Room). get_or x.has q false) (passed_over (nat_lt r.taken r.count) (one_taken r p) (record r { is_full = true }) e) ∙ has

    go : (t : Bool) → get_or r.has p false ≡ t → get_or (split p r).has q false ≡ true
    go true e = ap (λ (x : Room). get_or x.has q false) (chosen (get_or r.has p false) r (taking p r) e) ∙ has
    go false e = ap (λ (x : Room). get_or x.has q false) (passed_over (get_or r.has p false) r (taking p r) e) ∙ on (nat_lt r.taken r.count) refl

pub is_split : (word : ℕ) (r : Room) → word / 1024 < length r.has → (split_at word r).is_full ≡ false → IsSplitAt word (split_at word r)
is_split word r inside = go (word % 1024 == 0) refl
  where
    go : (t : Bool) → (word % 1024 == 0) ≡ t → (split_at word r).is_full ≡ false → IsSplitAt word (split_at word r)
    go true e left = inl (grind (arith, nat_tests, e))
    go false e left =
        let is : split_at word r ≡ split (word / 1024) r = passed_over (word % 1024 == 0) r (split (word / 1024) r) e in
        inr (ap (λ (q : Room). get_or q.has (word / 1024) false) is ∙ has_now (word / 1024) r inside (sym (ap (λ (q : Room). q.is_full) is) ∙ left))

pub stays_split : (word other : ℕ) (r : Room) → word / 1024 < length r.has → IsSplitAt other r → IsSplitAt other (split_at word r)
stays_split word other r inside (inl begin) = inl begin
stays_split word other r inside (inr has) = inr (go (word % 1024 == 0) refl)
  where
    go : (t : Bool) → (word % 1024 == 0) ≡ t → get_or (split_at word r).has (other / 1024) false ≡ true
    go true e = ap (λ (q : Room). get_or q.has (other / 1024) false) (chosen (word % 1024 == 0) r (split (word / 1024) r) e) ∙ has
    go false e = ap (λ (q : Room). get_or q.has (other / 1024) false) (passed_over (word % 1024 == 0) r (split (word / 1024) r) e) ∙ still_has (word / 1024) (other / 1024) r inside has

-- both ends of so many words
pub for_some : (n first : ℕ) (r q p : Room) → 1 ≤ n → q ≡ split_at first r → p ≡ split_at (first + n) q → p ≡ split_for n first r
for_some n first r q p some one two =
    two ∙ ap (λ (x : Room). split_at (first + n) x) one ∙ sym (passed_over (n == 0) r (split_at (first + n) (split_at first r)) (grind (arith, nat_tests, some)))

-- as many parts as before
choice_size : (t : Bool) (r q : Room) (n : ℕ) → length r.has ≡ n → length q.has ≡ n → length (if t then r else q).has ≡ n
choice_size true r q n first second = first
choice_size false r q n first second = second

pub at_size : (word : ℕ) (r : Room) → length (split_at word r).has ≡ length r.has
at_size word r =
    let p = word / 1024 in
    choice_size (word % 1024 == 0) r (split p r) (length r.has) refl
    (choice_size (get_or r.has p false) r (taking p r) (length r.has) refl
    (choice_size (nat_lt r.taken r.count) (one_taken r p) (record r { is_full = true }) (length r.has) (length-set r.has p true) refl))

-- A PIECE that ends with its part, or is the last one
pub piece_ends : (first count done n : ℕ) → n ≡ min (1024 - (first + done) % 1024) (count - done) → done < count
    → (done + n ≡ 0) ⊎ (((first + (done + n)) % 1024 ≡ 0) ⊎ (done + n ≡ count))
piece_ends first count done n is less = elim (cases_lt (1024 - (first + done) % 1024) (count - done)) [
  | inl lt ↦ (let e : n ≡ 1024 - (first + done) % 1024 = grind (arith, is, lt) in inr (inl (omega (arith, e))))
  | inr ge ↦ (let e : n ≡ count - done = grind (arith, is, ge) in inr (inr (omega (arith, e, less))))
]

pub piece_few : (first count done n : ℕ) → n ≡ min (1024 - (first + done) % 1024) (count - done) → done < count → done + n ≤ count
piece_few first count done n is less = elim (cases_lt (1024 - (first + done) % 1024) (count - done)) [
  | inl lt ↦ (let e : n ≡ 1024 - (first + done) % 1024 = grind (arith, is, lt) in omega (arith, e, lt))
  | inr ge ↦ (let e : n ≡ count - done = grind (arith, is, ge) in omega (arith, e, less))
]
