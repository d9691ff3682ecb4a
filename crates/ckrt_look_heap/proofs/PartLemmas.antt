-- Parts of which some have slots, and cells that lie in them.
use Rattle.std.proofs.Common.{◌≡◌, ◌≢◌, ◌⊎◌, inl, inr, ◌≤◌, ◌<◌, ℕ, zero, suc, ◌+◌, ◌-◌, ◌*◌, ◌/◌, ◌%◌, ◌^◌, Bool, true, false, if◌then◌else◌, List, [], ◌∷◌, ◌++◌, length, map, get_or, slice_set, replicate, take, refl, sym, ap, ◌∙◌, arith}
use Rattle.std.proofs.lemmas.Bool.{cases_eq, cases_lt}
use Rattle.std.proofs.lemmas.List.{ext_get_or, get_or-append_right, get_or-replicate, get_or-set_other, get_or-set_same, get_or_append_left, get_or_read, length-append, length-replicate, length-set, take_all}
use Rattle.std.proofs.lemmas.List.FromFn.{get_or-map-range_with_len, length-map-range_with_len}
use Rattle.ckrt_look_heap.specs.declared.block.Cell.{Cell}
use Rattle.ckrt_look_heap.specs.declared.block.Cell.TheVariants as cell
use Rattle.ckrt_look_heap.specs.declared.block.Change.{Change}
use Rattle.ckrt_look_heap.specs.declared.parts.Told.{Told}
use Rattle.ckrt_look_heap.specs.declared.parts.Told.TheVariants as told
use Rattle.ckrt_look_heap.specs.Parts.{IsRoom, Parted, Room, altered, cell_at, cell_in, cells_of, has_own, no_slots, room_of}
use Rattle.ckrt_look_heap.specs.Shadow.{changed_by}
use Rattle.ckrt_look_heap.proofs.CellLemmas.{altered_after, altered_before, altered_same, altered_size}
use Rattle.ckrt_look_heap.proofs.ListLemmas.{chosen}

abbrev pub none : Told
none = told.Same cell.Unknown

-- CELLS

pub cells_size : (b : List Told) (c : List Cell) (n : ℕ) → length (cells_of b c n) ≡ n
cells_size b c n = length-map-range_with_len (cell_at b c) 0 n

pub cells_get : (b : List Told) (c : List Cell) (n w : ℕ) (d : Cell) → w < n → get_or (cells_of b c n) w d ≡ cell_at b c w
cells_get b c n w d l = get_or-map-range_with_len (cell_at b c) 0 n w w d l (omega arith)

-- cells that are the same one by one
pub cells_are : (b : List Told) (c l : List Cell) (n : ℕ) → length l ≡ n → ((w : ℕ) → w < n → cell_at b c w ≡ get_or l w cell.Unknown) → cells_of b c n ≡ l
cells_are b c l n size same =
    ext_get_or cell.Unknown (cells_of b c n) l (cells_size b c n ∙ sym size)
    (λ w less. let inside : w < n = omega (arith, less, cells_size b c n) in cells_get b c n w cell.Unknown inside ∙ same w inside)

pub cells_same : (b b' : List Told) (c c' : List Cell) (n : ℕ) → ((w : ℕ) → w < n → cell_at b' c' w ≡ cell_at b c w) → cells_of b' c' n ≡ cells_of b c n
cells_same b b' c c' n same =
    cells_are b' c' (cells_of b c n) n (cells_size b c n) (λ w inside. same w inside ∙ sym (cells_get b c n w cell.Unknown inside))

-- A WORD of a part with a slot, and of one without
pub in_each : (b : List Told) (c : List Cell) (w slot : ℕ) → get_or b (w / 1024) none ≡ told.Each slot → cell_at b c w ≡ get_or c (1024 * slot + w % 1024) cell.Unknown
in_each b c w slot is = ap (cell_in (w % 1024) c) is

pub in_same : (b : List Told) (c : List Cell) (w : ℕ) (x : Cell) → get_or b (w / 1024) none ≡ told.Same x → cell_at b c w ≡ x
in_same b c w x is = ap (cell_in (w % 1024) c) is

cases_told : (t : Told) → ((x : Cell) × (t ≡ told.Same x)) ⊎ ((slot : ℕ) × (t ≡ told.Each slot))
cases_told (told.Same x) = inl (x, refl)
cases_told (told.Each slot) = inr (slot, refl)

same_slot : (s t : ℕ) → told.Each s ≡ told.Each t → s ≡ t
same_slot s t e = cc

same_not_each : (x : Cell) (t : ℕ) → told.Same x ≡ told.Each t → ⊥
same_not_each x t e = absurd (cc)

pub placed : (b : List Told) (c : List Cell) (r : Room) (words room w slot : ℕ) → IsRoom b c r words room → get_or b (w / 1024) none ≡ told.Each slot → 1024 * slot + w % 1024 < length c
placed b c r words room w slot is there = omega (arith, is.filled, is.taken (w / 1024) slot there)

-- what is read of a part
pub told_read : (b : List Told) (p : ℕ) (t u : Told) → p < length b → t ≡ get_or b p t → t ≡ u → get_or b p none ≡ u
told_read b p t u inside read is = sym (get_or_read b p t inside read none) ∙ is

-- WHICH HAVE A SLOT

pub has_get : (b : List Told) (p : ℕ) → get_or (map has_own b) p false ≡ has_own (get_or b p none)
has_get [] p = refl
has_get (t ∷ b) zero = refl
has_get (t ∷ b) (suc p) = has_get b p

pub has_set : (b : List Told) (p s : ℕ) → map has_own (slice_set b p (told.Each s)) ≡ slice_set (map has_own b) p true
has_set [] p s = refl
has_set (t ∷ b) zero s = refl
has_set (t ∷ b) (suc p) s = ap (λ l. has_own t ∷ l) (has_set b p s)

pub has_kept : (b : List Told) (p : ℕ) (x y : Cell) → get_or b p none ≡ told.Same x → map has_own (slice_set b p (told.Same y)) ≡ map has_own b
has_kept [] p x y is = refl
has_kept (t ∷ b) zero x y is = ap (λ h. h ∷ map has_own b) (sym (ap has_own is))
has_kept (t ∷ b) (suc p) x y is = ap (λ l. has_own t ∷ l) (has_kept b p x y is)

pub has_size : (b : List Told) → length (map has_own b) ≡ length b
has_size [] = refl
has_size (t ∷ b) = ap (λ n. suc n) (has_size b)

-- A PART THAT TAKES A SLOT, of whose words this was told

abbrev pub more_cells : Cell → List Cell → List Cell
more_cells x c = c ++ replicate 1024 x

more_size : (x : Cell) (c : List Cell) → length (more_cells x c) ≡ length c + 1024
more_size x c = length-append c (replicate 1024 x) ∙ ap (λ n. length c + n) (length-replicate 1024 x)

cell_stays : (b : List Told) (c : List Cell) (r : Room) (words room part w : ℕ) (x : Cell) → IsRoom b c r words room → part < length b → get_or b part none ≡ told.Same x
    → cell_at (slice_set b part (told.Each r.taken)) (more_cells x c) w ≡ cell_at b c w
cell_stays b c r words room part w x is inside same = elim (cases_eq (w / 1024) part) [
  | inl e ↦
      let b' : List Told = slice_set b part (told.Each r.taken) in
      let there : get_or b' (w / 1024) none ≡ told.Each r.taken = ap (λ k. get_or b' k none) e ∙ get_or-set_same b part (told.Each r.taken) none inside in
      in_each b' (more_cells x c) w r.taken there
      ∙ get_or-append_right c (replicate 1024 x) (1024 * r.taken) (1024 * r.taken + w % 1024) cell.Unknown is.filled (omega arith)
      ∙ get_or-replicate 1024 (1024 * r.taken + w % 1024 - 1024 * r.taken) x cell.Unknown (omega arith)
      ∙ sym (in_same b c w x (ap (λ k. get_or b k none) e ∙ same))
  | inr other ↦
      let b' : List Told = slice_set b part (told.Each r.taken) in
      let stays : get_or b' (w / 1024) none ≡ get_or b (w / 1024) none = get_or-set_other b part (w / 1024) (told.Each r.taken) none other in
      elim (cases_told (get_or b (w / 1024) none)) [
        | inl one ↦ in_same b' (more_cells x c) w one.0 (stays ∙ one.1) ∙ sym (in_same b c w one.0 one.1)
        | inr has ↦
            in_each b' (more_cells x c) w has.0 (stays ∙ has.1)
            ∙ get_or_append_left c (replicate 1024 x) cell.Unknown (1024 * has.0 + w % 1024) (placed b c r words room w has.0 is has.1)
            ∙ sym (in_each b c w has.0 has.1)
      ]
]

pub cells_stay : (b : List Told) (c : List Cell) (r : Room) (words room part : ℕ) (x : Cell) → IsRoom b c r words room → part < length b → get_or b part none ≡ told.Same x
    → cells_of (slice_set b part (told.Each r.taken)) (more_cells x c) words ≡ cells_of b c words
cells_stay b c r words room part x is inside same =
    cells_same b (slice_set b part (told.Each r.taken)) c (more_cells x c) words (λ w l. cell_stays b c r words room part w x is inside same)

-- the room then
abbrev pub one_taken : Room → (part : ℕ) → Room
one_taken r part = record r { has = slice_set r.has part true; taken = r.taken + 1 }

pub room_taken : (b : List Told) (c : List Cell) (r : Room) (words room room' part : ℕ) (x : Cell) → room ≤ room' → IsRoom b c r words room → part < length b → r.taken < r.count
    → IsRoom (slice_set b part (told.Each r.taken)) (more_cells x c) (one_taken r part) words room'
room_taken b c r words room room' part x more is inside left = record {
  parts = length-set b part (told.Each r.taken) ∙ is.parts;
  filled = more_size x c ∙ omega (arith, is.filled);
  few = omega (arith, left);
  room_for = omega (arith, is.room_for, more);
  fits = is.fits;
  taken = λ p slot has. elim (cases_eq p part) [
    | inl e ↦ omega (arith, same_slot r.taken slot (sym (mine p e) ∙ has))
    | inr other ↦ omega (arith, is.taken p slot (sym (others p other) ∙ has))
  ];
  apart = λ p q slot has had. elim (cases_eq p part) [
    | inl e ↦ elim (cases_eq q part) [
      | inl f ↦ e ∙ sym f
      | inr other ↦
          let slot_is : r.taken ≡ slot = same_slot r.taken slot (sym (mine p e) ∙ has) in
          absurd (omega (arith, slot_is, is.taken q slot (sym (others q other) ∙ had)))
    ]
    | inr other ↦ elim (cases_eq q part) [
      | inl f ↦
          let slot_is : r.taken ≡ slot = same_slot r.taken slot (sym (mine q f) ∙ had) in
          absurd (omega (arith, slot_is, is.taken p slot (sym (others p other) ∙ has)))
      | inr also ↦ is.apart p q slot (sym (others p other) ∙ has) (sym (others q also) ∙ had)
    ]
  ];
}
  where
    mine : (p : ℕ) → p ≡ part → get_or (slice_set b part (told.Each r.taken)) p none ≡ told.Each r.taken
    mine p e = ap (λ k. get_or (slice_set b part (told.Each r.taken)) k none) e ∙ get_or-set_same b part (told.Each r.taken) none inside

    others : (p : ℕ) → p ≢ part → get_or (slice_set b part (told.Each r.taken)) p none ≡ get_or b p none
    others p other = get_or-set_other b part p (told.Each r.taken) none other

-- what its growth leaves
pub resized : (c new : List Cell) (taken size : ℕ) (ok : Bool) (x : Cell) → size ≡ length c → length c ≡ 1024 * taken → ok ≡ true
    → new ≡ (if ok then take (1024 * (taken + 1)) c ++ replicate (1024 * (taken + 1) - size) x else c) → new ≡ more_cells x c
resized c new taken size ok x same filled well is =
    is ∙ chosen ok (take (1024 * (taken + 1)) c ++ replicate (1024 * (taken + 1) - size) x) c well
    ∙ ap (λ l. l ++ replicate (1024 * (taken + 1) - size) x) (take_all (1024 * (taken + 1)) c (omega (arith, filled)))
    ∙ ap (λ n. c ++ replicate n x) (let h : 1024 * (taken + 1) - size ≡ 1024 = omega (arith, same, filled) in h)

-- A PART of whose words all the same is told again
pub room_same : (b : List Told) (c : List Cell) (r r' : Room) (words room part : ℕ) (y : Cell) → r'.taken ≡ r.taken → r'.count ≡ r.count → part < length b → IsRoom b c r words room → IsRoom (slice_set b part (told.Same y)) c r' words room
room_same b c r r' words room part y taken count inside is = record {
  parts = length-set b part (told.Same y) ∙ is.parts;
  filled = omega (arith, is.filled, taken);
  few = omega (arith, is.few, taken, count);
  room_for = omega (arith, is.room_for, count);
  fits = omega (arith, is.fits, count);
  taken = λ p slot has. omega (arith, is.taken p slot (before p slot has), taken);
  apart = λ p q slot has had. is.apart p q slot (before p slot has) (before q slot had);
}
  where
    before : (p slot : ℕ) → get_or (slice_set b part (told.Same y)) p none ≡ told.Each slot → get_or b p none ≡ told.Each slot
    before p slot has = elim (cases_eq p part) [
      | inl e ↦
          absurd (same_not_each y slot (sym (get_or-set_same b part (told.Same y) none inside) ∙ ap (λ k. get_or (slice_set b part (told.Same y)) k none) (sym e) ∙ has))
      | inr other ↦ sym (get_or-set_other b part p (told.Same y) none other) ∙ has
    ]

pub same_altered : (b : List Told) (c : List Cell) (words first n : ℕ) (x : Cell) (ch : Change) → get_or b (first / 1024) none ≡ told.Same x → first / 1024 < length b
    → n ≡ 1024 → first % 1024 + n ≤ 1024 → first + n ≤ words
    → cells_of (slice_set b (first / 1024) (told.Same (changed_by ch x))) c words ≡ altered n first ch (cells_of b c words)
same_altered b c words first n x ch same inside all within last =
    let p = first / 1024 in let y = changed_by ch x in let b' : List Told = slice_set b p (told.Same y) in let l : List Cell = cells_of b c words in
    cells_are b' c (altered n first ch l) words (altered_size n first ch l ∙ cells_size b c words)
    (λ w less. elim (cases_eq (w / 1024) p) [
      | inl e ↦
          in_same b' c w y (ap (λ k. get_or b' k none) e ∙ get_or-set_same b p (told.Same y) none inside)
          ∙ ap (changed_by ch) (sym (cells_get b c words w cell.Unknown less ∙ in_same b c w x (ap (λ k. get_or b k none) e ∙ same)))
          ∙ sym (altered_same n first w ch cell.Unknown l (omega (arith, e, all, within)) (omega (arith, e, all, within)) (omega (arith, last, cells_size b c words)))
      | inr other ↦
          ap (cell_in (w % 1024) c) (get_or-set_other b p (w / 1024) (told.Same y) none other)
          ∙ sym (outside w (λ ge lt. other (omega (arith, all, within, ge, lt))) ∙ cells_get b c words w cell.Unknown less)
    ])
  where
    outside : (w : ℕ) → (first ≤ w → w < first + n → ⊥) → get_or (altered n first ch (cells_of b c words)) w cell.Unknown ≡ get_or (cells_of b c words) w cell.Unknown
    outside w not = elim (cases_lt w first) [
      | inl lt ↦ altered_before n first w ch cell.Unknown (cells_of b c words) lt
      | inr ge ↦ elim (cases_lt w (first + n)) [
        | inl lt ↦ absurd (not ge lt)
        | inr past ↦ altered_after n first w ch cell.Unknown (cells_of b c words) past
      ]
    ]

-- WORDS of a part with a slot
room_sized : (b : List Told) (c c' : List Cell) (r : Room) (words room room' : ℕ) → length c' ≡ length c → room' ≡ room → IsRoom b c r words room → IsRoom b c' r words room'
room_sized b c c' r words room room' size same is = record {
  parts = is.parts;
  filled = size ∙ is.filled;
  few = is.few;
  room_for = omega (arith, is.room_for, same);
  fits = is.fits;
  taken = is.taken;
  apart = is.apart;
}

pub room_altered : (b : List Told) (c c' : List Cell) (r : Room) (words room room' place n : ℕ) (ch : Change) → c' ≡ altered n place ch c → room' ≡ room → IsRoom b c r words room → IsRoom b c' r words room'
room_altered b c c' r words room room' place n ch is same all =
    room_sized b c c' r words room room' (ap length is ∙ altered_size n place ch c) same all

pub each_altered : (b : List Told) (c : List Cell) (r : Room) (words room first slot n : ℕ) (ch : Change) → IsRoom b c r words room → get_or b (first / 1024) none ≡ told.Each slot
    → first % 1024 + n ≤ 1024 → first + n ≤ words
    → cells_of b (altered n (1024 * slot + first % 1024) ch c) words ≡ altered n first ch (cells_of b c words)
each_altered b c r words room first slot n ch is there within last =
    let p = first / 1024 in let place = 1024 * slot + first % 1024 in let c' : List Cell = altered n place ch c in let l : List Cell = cells_of b c words in
    cells_are b c' (altered n first ch l) words (altered_size n first ch l ∙ cells_size b c words)
    (λ w less. elim (cases_told (get_or b (w / 1024) none)) [
      | inl one ↦
          in_same b c' w one.0 one.1 ∙ sym (in_same b c w one.0 one.1) ∙ sym (cells_get b c words w cell.Unknown less)
          ∙ sym (outside first l w (λ ge lt. same_not_each one.0 slot (sym one.1 ∙ ap (λ k. get_or b k none) (let h : w / 1024 ≡ p = omega (arith, within, ge, lt) in h) ∙ there)))
      | inr has ↦
          in_each b c' w has.0 has.1 ∙ elim (cases_lt w first) [
            | inl lt ↦
                outside place c (1024 * has.0 + w % 1024) (λ ge le. (let e : has.0 ≡ slot = omega (arith, within, ge, le) in omega (arith, e, part w has.0 has.1 e, lt, ge, le, within)))
                ∙ stays w has.0 has.1 less ∙ sym (altered_before n first w ch cell.Unknown l lt)
            | inr ge ↦ elim (cases_lt w (first + n)) [
              | inl lt ↦
                  let same : w / 1024 ≡ p = omega (arith, within, ge, lt) in
                  let e : has.0 ≡ slot = same_slot has.0 slot (sym has.1 ∙ ap (λ k. get_or b k none) same ∙ there) in
                  altered_same n place (1024 * has.0 + w % 1024) ch cell.Unknown c (omega (arith, e, same, ge)) (omega (arith, e, same, lt)) (omega (arith, within, is.filled, is.taken p slot there))
                  ∙ ap (changed_by ch) (stays w has.0 has.1 less)
                  ∙ sym (altered_same n first w ch cell.Unknown l ge lt (omega (arith, last, cells_size b c words)))
              | inr past ↦
                  outside place c (1024 * has.0 + w % 1024) (λ from le. (let e : has.0 ≡ slot = omega (arith, within, from, le) in omega (arith, e, part w has.0 has.1 e, past, from, le, within)))
                  ∙ stays w has.0 has.1 less ∙ sym (altered_after n first w ch cell.Unknown l past)
            ]
          ]
    ])
  where
    outside : (at : ℕ) (l : List Cell) (w : ℕ) → (at ≤ w → w < at + n → ⊥) → get_or (altered n at ch l) w cell.Unknown ≡ get_or l w cell.Unknown
    outside at l w not = elim (cases_lt w at) [
      | inl lt ↦ altered_before n at w ch cell.Unknown l lt
      | inr ge ↦ elim (cases_lt w (at + n)) [
        | inl lt ↦ absurd (not ge lt)
        | inr past ↦ altered_after n at w ch cell.Unknown l past
      ]
    ]

    part : (w s : ℕ) → get_or b (w / 1024) none ≡ told.Each s → s ≡ slot → w / 1024 ≡ first / 1024
    part w s has e = is.apart (w / 1024) (first / 1024) slot (has ∙ ap (λ k. told.Each k) e) there

    stays : (w s : ℕ) → get_or b (w / 1024) none ≡ told.Each s → w < words → get_or c (1024 * s + w % 1024) cell.Unknown ≡ get_or (cells_of b c words) w cell.Unknown
    stays w s has less = sym (cells_get b c words w cell.Unknown less ∙ in_each b c w s has)

-- NOTHING WAS TOLD

none_told : (n p : ℕ) → get_or (replicate n none) p none ≡ none
none_told zero p = refl
none_told (suc n) zero = refl
none_told (suc n) (suc p) = none_told n p

none_have : (n : ℕ) → map has_own (replicate n none) ≡ replicate n false
none_have zero = refl
none_have (suc n) = ap (λ l. false ∷ l) (none_have n)

pub room_empty : (b : List Told) (c : List Cell) (r : Room) (words room n : ℕ) → b ≡ replicate n none → n ≡ words / 1024 + 1 → r.taken ≡ 0 → c ≡ [] → 1024 * r.count ≤ room → 1024 * r.count < 2 ^ 64 → IsRoom b c r words room
room_empty b c r words room n are size nothing empty enough fits = record {
  parts = ap length are ∙ length-replicate n none ∙ size;
  filled = ap length empty ∙ omega (arith, nothing);
  few = omega (arith, nothing);
  room_for = enough;
  fits = fits;
  taken = λ p slot has. absurd (same_not_each cell.Unknown slot (sym (ap (λ (l : List Told). get_or l p none) are ∙ none_told n p) ∙ has));
  apart = λ p q slot has had. absurd (same_not_each cell.Unknown slot (sym (ap (λ (l : List Told). get_or l p none) are ∙ none_told n p) ∙ has));
}

pub cells_empty : (b : List Told) (c : List Cell) (n words : ℕ) → b ≡ replicate n none → cells_of b c words ≡ replicate words cell.Unknown
cells_empty b c n words are =
    cells_are b c (replicate words cell.Unknown) words (length-replicate words cell.Unknown)
    (λ w inside. in_same b c w cell.Unknown (ap (λ (x : List Told). get_or x (w / 1024) none) are ∙ none_told n (w / 1024))
    ∙ sym (get_or-replicate words w cell.Unknown cell.Unknown inside))

pub none_done : (b : List Told) (c : List Cell) (words count : ℕ) → b ≡ replicate (words / 1024 + 1) none
    → (let x : Parted = record { cells = cells_of b c words; room = room_of b 0 count false } in x) ≡ record { cells = replicate words cell.Unknown; room = no_slots words count }
none_done b c words count are =
    ap (λ (l : List Cell). (let x : Parted = record { cells = l; room = room_of b 0 count false } in x)) (cells_empty b c (words / 1024 + 1) words are)
    ∙ ap (λ (h : List Bool). (let x : Parted = record { cells = replicate words cell.Unknown; room = record { has = h; taken = 0; count = count; is_full = false } } in x)) (ap (map has_own) are ∙ none_have (words / 1024 + 1))
