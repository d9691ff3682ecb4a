-- Slots that parts take, and cells that lie in them.
use Rattle.std.proofs.Common.{◌≡◌, ◌≢◌, ◌⊎◌, inl, inr, ◌≤◌, ◌<◌, ℕ, zero, suc, ◌+◌, ◌-◌, ◌*◌, ◌/◌, ◌%◌, ◌^◌, Bool, true, false, if◌then◌else◌, List, [], ◌++◌, length, get_or, slice_set, replicate, take, Option, None, Some, is_some, refl, sym, ap, ◌∙◌, arith}
use Rattle.std.proofs.lemmas.Bool.{cases_eq}
use Rattle.std.proofs.lemmas.Option.{same_Some}
use Rattle.std.proofs.lemmas.List.{ext_get_or, get_or-append_right, get_or-replicate, get_or-set_other, get_or-set_same, get_or_append_left, get_or_read, length-append, length-replicate, length-set, take_all}
use Rattle.std.proofs.lemmas.List.FromFn.{get_or-map-range_with_len, length-map-range_with_len}
use Rattle.ckrt_look_clocks.specs.declared.shadow.Cell.{Cell}
use Rattle.ckrt_look_clocks.specs.Detection.{no_accesses}
use Rattle.ckrt_look_clocks.specs.Parts.{IsRoom, Shadowed, Slots, cell_at, cell_in, cells_of, no_shadow}
use Rattle.ckrt_look_clocks.proofs.ListLemmas.{chosen}

-- CELLS

pub cells_size : (b : List (Option ℕ)) (c : List Cell) (n : ℕ) → length (cells_of b c n) ≡ n
cells_size b c n = length-map-range_with_len (cell_at b c) 0 n

pub cells_get : (b : List (Option ℕ)) (c : List Cell) (n w : ℕ) (d : Cell) → w < n → get_or (cells_of b c n) w d ≡ cell_at b c w
cells_get b c n w d l = get_or-map-range_with_len (cell_at b c) 0 n w w d l (omega arith)

-- cells that are the same one by one
pub cells_same : (b b' : List (Option ℕ)) (c c' : List Cell) (n : ℕ) → ((w : ℕ) → w < n → cell_at b' c' w ≡ cell_at b c w) → cells_of b' c' n ≡ cells_of b c n
cells_same b b' c c' n same =
    ext_get_or no_accesses (cells_of b' c' n) (cells_of b c n) (cells_size b' c' n ∙ sym (cells_size b c n))
    (λ w l. let inside : w < n = omega (arith, l, cells_size b' c' n) in
    cells_get b' c' n w no_accesses inside ∙ same w inside ∙ sym (cells_get b c n w no_accesses inside))

-- cells of which one is another
pub cells_set : (b b' : List (Option ℕ)) (c c' : List Cell) (n word : ℕ) (x : Cell) → word < n → cell_at b' c' word ≡ x
    → ((w : ℕ) → w ≢ word → cell_at b' c' w ≡ cell_at b c w) → cells_of b' c' n ≡ slice_set (cells_of b c n) word x
cells_set b b' c c' n word x l is same =
    ext_get_or no_accesses (cells_of b' c' n) (slice_set (cells_of b c n) word x)
    (cells_size b' c' n ∙ sym (length-set (cells_of b c n) word x ∙ cells_size b c n))
    (λ w less. let inside : w < n = omega (arith, less, cells_size b' c' n) in
    cells_get b' c' n w no_accesses inside ∙ elim (cases_eq w word) [
      | inl e ↦
          ap (λ k. cell_at b' c' k) e ∙ is
          ∙ sym (ap (λ k. get_or (slice_set (cells_of b c n) word x) k no_accesses) e ∙ get_or-set_same (cells_of b c n) word x no_accesses (omega (arith, l, cells_size b c n)))
      | inr other ↦
          same w other
          ∙ sym (get_or-set_other (cells_of b c n) word w x no_accesses other ∙ cells_get b c n w no_accesses inside)
    ])

-- A WORD in the slot of its part
in_slot : (b : List (Option ℕ)) (c : List Cell) (w slot : ℕ) → get_or b (w / 1024) None ≡ Some slot → cell_at b c w ≡ get_or c (1024 * slot + w % 1024) no_accesses
in_slot b c w slot is = ap (cell_in (w % 1024) c) is

in_none : (b : List (Option ℕ)) (c : List Cell) (w : ℕ) → get_or b (w / 1024) None ≡ None → cell_at b c w ≡ no_accesses
in_none b c w is = ap (cell_in (w % 1024) c) is

-- where nothing is or a slot is
cases_slot : (o : Option ℕ) → (o ≡ None) ⊎ ((slot : ℕ) × (o ≡ Some slot))
cases_slot None = inl refl
cases_slot (Some slot) = inr (slot, refl)

-- what a word's place is within its room
pub placed : (s : Slots) (c : List Cell) (words room w slot : ℕ) → IsRoom s c words room → get_or s.by_part (w / 1024) None ≡ Some slot → 1024 * slot + w % 1024 < length c
placed s c words room w slot is there = omega (arith, is.filled, is.taken (w / 1024) slot there)

-- A CELL that is written
other_place : (s : Slots) (c : List Cell) (words room w word slot : ℕ) (x : Cell) → IsRoom s c words room → get_or s.by_part (word / 1024) None ≡ Some slot → w ≢ word
    → cell_at s.by_part (slice_set c (1024 * slot + word % 1024) x) w ≡ cell_at s.by_part c w
other_place s c words room w word slot x is there other = elim (cases_slot (get_or s.by_part (w / 1024) None)) [
  | inl none ↦ in_none s.by_part (slice_set c (1024 * slot + word % 1024) x) w none ∙ sym (in_none s.by_part c w none)
  | inr has ↦
      let apart : 1024 * has.0 + w % 1024 ≢ 1024 * slot + word % 1024 = λ e.
      (let same : has.0 ≡ slot = omega (arith, e) in
      let part : w / 1024 ≡ word / 1024 = is.apart (w / 1024) (word / 1024) slot (has.1 ∙ ap (λ k. Some k) same) there in
      other (omega (arith, e, same, part))) in
      in_slot s.by_part (slice_set c (1024 * slot + word % 1024) x) w has.0 has.1
      ∙ get_or-set_other c (1024 * slot + word % 1024) (1024 * has.0 + w % 1024) x no_accesses apart
      ∙ sym (in_slot s.by_part c w has.0 has.1)
]

pub cell_written : (s : Slots) (c : List Cell) (words room word slot : ℕ) (x : Cell) → IsRoom s c words room → get_or s.by_part (word / 1024) None ≡ Some slot → word < words
    → cells_of s.by_part (slice_set c (1024 * slot + word % 1024) x) words ≡ slice_set (cells_of s.by_part c words) word x
cell_written s c words room word slot x is there l =
    cells_set s.by_part s.by_part c (slice_set c (1024 * slot + word % 1024) x) words word x l
    (in_slot s.by_part (slice_set c (1024 * slot + word % 1024) x) word slot there
    ∙ get_or-set_same c (1024 * slot + word % 1024) x no_accesses (placed s c words room word slot is there))
    (λ w other. other_place s c words room w word slot x is there other)

pub cell_read : (s : Slots) (c : List Cell) (words word slot : ℕ) → get_or s.by_part (word / 1024) None ≡ Some slot → word < words
    → get_or (cells_of s.by_part c words) word no_accesses ≡ get_or c (1024 * slot + word % 1024) no_accesses
cell_read s c words word slot there l = cells_get s.by_part c words word no_accesses l ∙ in_slot s.by_part c word slot there

pub room_written : (s : Slots) (c : List Cell) (words room room' at : ℕ) (x : Cell) → room ≡ room' → IsRoom s c words room → IsRoom s (slice_set c at x) words room'
room_written s c words room room' at x same is = record {
  parts = is.parts;
  filled = length-set c at x ∙ is.filled;
  few = is.few;
  room_for = omega (arith, is.room_for, same);
  fits = is.fits;
  taken = is.taken;
  apart = is.apart;
}

-- A PART THAT TAKES A SLOT

-- the slots then
abbrev pub with_slot : (part : ℕ) → Slots → Slots
with_slot part s = record s { by_part = slice_set s.by_part part (Some s.taken); taken = s.taken + 1 }

abbrev pub more_cells : List Cell → List Cell
more_cells c = c ++ replicate 1024 no_accesses

more_size : (c : List Cell) → length (more_cells c) ≡ length c + 1024
more_size c = length-append c (replicate 1024 no_accesses) ∙ ap (λ n. length c + n) (length-replicate 1024 no_accesses)

cell_stays : (s : Slots) (c : List Cell) (words room part w : ℕ) → IsRoom s c words room → part < length s.by_part → get_or s.by_part part None ≡ None
    → cell_at (slice_set s.by_part part (Some s.taken)) (more_cells c) w ≡ cell_at s.by_part c w
cell_stays s c words room part w is inside none = elim (cases_eq (w / 1024) part) [
  | inl e ↦
      let b : List (Option ℕ) = slice_set s.by_part part (Some s.taken) in
      let there : get_or b (w / 1024) None ≡ Some s.taken = ap (λ k. get_or b k None) e ∙ get_or-set_same s.by_part part (Some s.taken) None inside in
      in_slot b (more_cells c) w s.taken there
      ∙ get_or-append_right c (replicate 1024 no_accesses) (1024 * s.taken) (1024 * s.taken + w % 1024) no_accesses is.filled (omega arith)
      ∙ get_or-replicate 1024 (1024 * s.taken + w % 1024 - 1024 * s.taken) no_accesses no_accesses (omega arith)
      ∙ sym (in_none s.by_part c w (ap (λ k. get_or s.by_part k None) e ∙ none))
  | inr other ↦
      let b : List (Option ℕ) = slice_set s.by_part part (Some s.taken) in
      let same : get_or b (w / 1024) None ≡ get_or s.by_part (w / 1024) None = get_or-set_other s.by_part part (w / 1024) (Some s.taken) None other in
      elim (cases_slot (get_or s.by_part (w / 1024) None)) [
        | inl nothing ↦ in_none b (more_cells c) w (same ∙ nothing) ∙ sym (in_none s.by_part c w nothing)
        | inr has ↦
            in_slot b (more_cells c) w has.0 (same ∙ has.1)
            ∙ get_or_append_left c (replicate 1024 no_accesses) no_accesses (1024 * has.0 + w % 1024) (placed s c words room w has.0 is has.1)
            ∙ sym (in_slot s.by_part c w has.0 has.1)
      ]
]

pub cells_stay : (s : Slots) (c : List Cell) (words room part : ℕ) → IsRoom s c words room → part < length s.by_part → get_or s.by_part part None ≡ None
    → cells_of (slice_set s.by_part part (Some s.taken)) (more_cells c) words ≡ cells_of s.by_part c words
cells_stay s c words room part is inside none =
    cells_same s.by_part (slice_set s.by_part part (Some s.taken)) c (more_cells c) words (λ w l. cell_stays s c words room part w is inside none)

pub room_taken : (s : Slots) (c : List Cell) (words room room' part : ℕ) → room ≤ room' → IsRoom s c words room → part < length s.by_part → s.taken < s.count → IsRoom (with_slot part s) (more_cells c) words room'
room_taken s c words room room' part more is inside left = record {
  parts = length-set s.by_part part (Some s.taken) ∙ is.parts;
  filled = more_size c ∙ omega (arith, is.filled);
  few = omega (arith, left);
  room_for = omega (arith, is.room_for, more);
  fits = is.fits;
  taken = λ p slot has. elim (cases_eq p part) [
    | inl e ↦ omega (arith, same_Some s.taken slot (sym (mine p e) ∙ has))
    | inr other ↦ omega (arith, is.taken p slot (sym (others p other) ∙ has))
  ];
  apart = λ p q slot has had. elim (cases_eq p part) [
    | inl e ↦ elim (cases_eq q part) [
      | inl f ↦ e ∙ sym f
      | inr other ↦
          let slot_is : s.taken ≡ slot = same_Some s.taken slot (sym (mine p e) ∙ has) in
          absurd (omega (arith, slot_is, is.taken q slot (sym (others q other) ∙ had)))
    ]
    | inr other ↦ elim (cases_eq q part) [
      | inl f ↦
          let slot_is : s.taken ≡ slot = same_Some s.taken slot (sym (mine q f) ∙ had) in
          absurd (omega (arith, slot_is, is.taken p slot (sym (others p other) ∙ has)))
      | inr also ↦ is.apart p q slot (sym (others p other) ∙ has) (sym (others q also) ∙ had)
    ]
  ];
}
  where
    mine : (p : ℕ) → p ≡ part → get_or (slice_set s.by_part part (Some s.taken)) p None ≡ Some s.taken
    mine p e = ap (λ k. get_or (slice_set s.by_part part (Some s.taken)) k None) e ∙ get_or-set_same s.by_part part (Some s.taken) None inside

    others : (p : ℕ) → p ≢ part → get_or (slice_set s.by_part part (Some s.taken)) p None ≡ get_or s.by_part p None
    others p other = get_or-set_other s.by_part part p (Some s.taken) None other

-- what its growth leaves
pub resized : (c new : List Cell) (taken size : ℕ) (ok : Bool) (x : Cell) → size ≡ length c → length c ≡ 1024 * taken → ok ≡ true → x ≡ no_accesses
    → new ≡ (if ok then take (1024 * (taken + 1)) c ++ replicate (1024 * (taken + 1) - size) x else c) → new ≡ more_cells c
resized c new taken size ok x same filled well none is =
    is ∙ chosen ok (take (1024 * (taken + 1)) c ++ replicate (1024 * (taken + 1) - size) x) c well
    ∙ ap (λ l. l ++ replicate (1024 * (taken + 1) - size) x) (take_all (1024 * (taken + 1)) c (omega (arith, filled)))
    ∙ ap (λ n. c ++ replicate n x) (let h : 1024 * (taken + 1) - size ≡ 1024 = omega (arith, same, filled) in h)
    ∙ ap (λ y. c ++ replicate 1024 y) none

-- what a test says of a slot
pub no_slot : (o : Option ℕ) → is_some o ≡ false → o ≡ None
no_slot None e = refl
no_slot (Some slot) e = absurd (cc)

-- what is read of the directory
pub slot_read : (s : Slots) (c : List Cell) (words room w slot : ℕ) (o : Option ℕ) → IsRoom s c words room → w < words → o ≡ get_or s.by_part (w / 1024) o → o ≡ Some slot → get_or s.by_part (w / 1024) None ≡ Some slot
slot_read s c words room w slot o is less read there = sym (get_or_read s.by_part (w / 1024) o (omega (arith, is.parts, less)) read None) ∙ there

-- NOTHING IS TAKEN

no_part : (n p : ℕ) → get_or (replicate n (let x : Option ℕ = None in x)) p None ≡ None
no_part zero p = refl
no_part (suc n) zero = refl
no_part (suc n) (suc p) = no_part n p

never : (slot : ℕ) → (let x : Option ℕ = None in x) ≡ Some slot → ⊥
never slot e = absurd (cc)

pub room_empty : (s : Slots) (c : List Cell) (words room n : ℕ) → s.by_part ≡ replicate n None → n ≡ words / 1024 + 1 → s.taken ≡ 0 → c ≡ [] → 1024 * s.count ≤ room → 1024 * s.count < 2 ^ 64 → IsRoom s c words room
room_empty s c words room n are size none empty enough fits = record {
  parts = ap length are ∙ length-replicate n None ∙ size;
  filled = ap length empty ∙ omega (arith, none);
  few = omega (arith, none);
  room_for = enough;
  fits = fits;
  taken = λ p slot has. absurd (never slot (sym (ap (λ (b : List (Option ℕ)). get_or b p None) are ∙ no_part n p) ∙ has));
  apart = λ p q slot has had. absurd (never slot (sym (ap (λ (b : List (Option ℕ)). get_or b p None) are ∙ no_part n p) ∙ has));
}

pub cells_empty : (b : List (Option ℕ)) (c : List Cell) (n words : ℕ) → b ≡ replicate n None → cells_of b c words ≡ replicate words no_accesses
cells_empty b c n words are =
    ext_get_or no_accesses (cells_of b c words) (replicate words no_accesses) (cells_size b c words ∙ sym (length-replicate words no_accesses))
    (λ w l. let inside : w < words = omega (arith, l, cells_size b c words) in
    cells_get b c words w no_accesses inside ∙ in_none b c w (ap (λ (x : List (Option ℕ)). get_or x (w / 1024) None) are ∙ no_part n (w / 1024))
    ∙ sym (get_or-replicate words w no_accesses no_accesses inside))

pub none_done : (b : List (Option ℕ)) (c : List Cell) (n words many count slots : ℕ) → b ≡ replicate n None → n ≡ words / 1024 + 1 → words ≡ many → count ≡ slots
    → (let x : Shadowed = record { cells = cells_of b c words; slots = record { by_part = b; taken = 0; count = count; is_full = false } } in x) ≡ no_shadow many slots
none_done b c n words many count slots are size same as_many =
    ap (λ (l : List Cell). (let x : Shadowed = record { cells = l; slots = record { by_part = b; taken = 0; count = count; is_full = false } } in x)) (cells_empty b c n words are)
    ∙ ap (λ (l : List (Option ℕ)). (let x : Shadowed = record { cells = replicate words no_accesses; slots = record { by_part = l; taken = 0; count = count; is_full = false } } in x)) (are ∙ ap (λ k. replicate k None) size)
    ∙ ap (λ k. no_shadow k count) same
    ∙ ap (λ k. no_shadow many k) as_many
