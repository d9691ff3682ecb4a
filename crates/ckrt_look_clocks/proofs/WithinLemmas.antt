-- What is detected within a room.
use Rattle.std.proofs.Common.{◌≡◌, ◌⊎◌, inl, inr, ◌≤◌, ◌<◌, ℕ, zero, suc, ◌+◌, ◌-◌, ◌/◌, nat_lt, ◌==◌, Bool, true, false, List, [], ◌∷◌, ◌++◌, length, get_or, slice_set, Option, None, Some, is_some, refl, sym, ap, ◌∙◌, subst, arith}
use Rattle.std.proofs.lemmas.Bool.{cases_eq}
use Rattle.std.proofs.lemmas.Bool.Decides.{nat_tests}
use Rattle.std.proofs.lemmas.Option.{slice_get-get_or, slice_get_past}
use Rattle.std.proofs.lemmas.List.{get_or-set_same, length-set}
use Rattle.ckrt_look_clocks.specs.declared.clock.Clock.{Clock}
use Rattle.ckrt_look_clocks.specs.declared.operation.Access.{Access}
use Rattle.ckrt_look_clocks.specs.declared.operation.Block.{Block}
use Rattle.ckrt_look_clocks.specs.declared.operation.Operation.{Operation}
use Rattle.ckrt_look_clocks.specs.declared.operation.Operation.TheVariants as operation
use Rattle.ckrt_look_clocks.specs.declared.shadow.Cell.{Cell}
use Rattle.ckrt_look_clocks.specs.Detection.{Found, Watched, access_at, behind, behind_all, compared_all, few_words, kept, no_accesses, renewed, word_of}
use Rattle.ckrt_look_clocks.specs.LockHistories.{Ordered}
use Rattle.ckrt_look_clocks.specs.Parts.{HaveSlots, Shadowed, Slots, has_slot, parts_over, taking, touched, touched_parts}
use Rattle.ckrt_look_clocks.specs.Within.{Detected, NothingIsLeftOut, noted_all, noted_one, detected_by, fresh_within, is_full, noted_with, slots_for}
use Rattle.ckrt_look_clocks.proofs.ListLemmas.{chosen, passed_over}
use Rattle.ckrt_look_clocks.proofs.ClockLemmas.{less_test, not_less_test}

-- A room that is used up
pub within_none : (o : Operation) (d : Detected) → is_full d ≡ true → d ≡ noted_one o d
within_none o d full = sym (chosen (is_full d) d (noted_with (slots_for o d.watched d.slots) o d.watched) full)

-- one that isn't, with these slots then
pub within_some : (o : Operation) (d : Detected) (s : Slots) → is_full d ≡ false → slots_for o d.watched d.slots ≡ s → noted_with s o d.watched ≡ noted_one o d
within_some o d s left is =
    sym (passed_over (is_full d) d (noted_with (slots_for o d.watched d.slots) o d.watched) left ∙ ap (λ (t : Slots). noted_with t o d.watched) is)

abbrev pub with_watched : Slots → Watched → Detected
with_watched s w = record { watched = w; slots = s }

pub noted_full : (s : Slots) (o : Operation) (w : Watched) → s.is_full ≡ true → (let x : Detected = record { watched = w; slots = s } in x) ≡ noted_with s o w
noted_full s o w e = ap (λ (v : Watched). with_watched s v) (sym (chosen s.is_full w (behind o w) e))

pub noted_open : (s : Slots) (o : Operation) (w : Watched) → s.is_full ≡ false → (let x : Detected = record { watched = behind o w; slots = s } in x) ≡ noted_with s o w
noted_open s o w e = ap (λ (v : Watched). with_watched s v) (sym (passed_over s.is_full w (behind o w) e))

-- AN ACCESS
module _ (clocks : List Clock) (a : Access) (s : Shadowed) (f : Found) (r : Ordered) where
  pub access_full : s.slots.is_full ≡ true → detected_by clocks s f r ≡ noted_one (operation.Access a) (detected_by clocks s f r)
  access_full full = within_none (operation.Access a) (detected_by clocks s f r) full

  same_slots : length s.cells ≤ word_of a → slots_for (operation.Access a) (detected_by clocks s f r).watched s.slots ≡ s.slots
  same_slots beyond = passed_over (nat_lt (word_of a) (length s.cells)) (touched (word_of a / 1024) s.slots) s.slots (not_less_test (word_of a) (length s.cells) beyond)

  -- of a word that the memory hasn't got
  pub access_beyond : s.slots.is_full ≡ false → length s.cells ≤ word_of a → detected_by clocks s f r ≡ noted_one (operation.Access a) (detected_by clocks s f r)
  access_beyond left beyond =
      let w : Watched = (detected_by clocks s f r).watched in
      ap (λ (v : Watched). with_watched s.slots v) (sym (ap (λ c. access_at a c w) (slice_get_past s.cells (word_of a) beyond)))
      ∙ noted_open s.slots (operation.Access a) w left
      ∙ within_some (operation.Access a) (detected_by clocks s f r) s.slots left (same_slots beyond)

  -- of a word whose part is touched
  touching : word_of a < length s.cells → slots_for (operation.Access a) (detected_by clocks s f r).watched s.slots ≡ touched (word_of a / 1024) s.slots
  touching inside = chosen (nat_lt (word_of a) (length s.cells)) (touched (word_of a / 1024) s.slots) s.slots (less_test (word_of a) (length s.cells) inside)

  pub access_used_up : (t : Shadowed) → s.slots.is_full ≡ false → word_of a < length s.cells → t.slots ≡ touched (word_of a / 1024) s.slots → t.cells ≡ s.cells → t.slots.is_full ≡ true
      → detected_by clocks t f r ≡ noted_one (operation.Access a) (detected_by clocks s f r)
  access_used_up t left inside slots cells full =
      let w : Watched = (detected_by clocks s f r).watched in
      ap (λ (l : List Cell). with_watched t.slots (record { clocks = clocks; shadow = l; found = f; orders = r })) cells
      ∙ noted_full t.slots (operation.Access a) w full
      ∙ within_some (operation.Access a) (detected_by clocks s f r) t.slots left (touching inside ∙ sym slots)

  pub access_noted : (t u : Shadowed) (g : Found) → s.slots.is_full ≡ false → word_of a < length s.cells → t.slots ≡ touched (word_of a / 1024) s.slots → t.cells ≡ s.cells → t.slots.is_full ≡ false
      → u.slots ≡ t.slots → u.cells ≡ slice_set t.cells (word_of a) (kept a (get_or t.cells (word_of a) no_accesses)) → g ≡ compared_all clocks a (get_or t.cells (word_of a) no_accesses) f
      → detected_by clocks u g r ≡ noted_one (operation.Access a) (detected_by clocks s f r)
  access_noted t u g left inside slots cells left' stay written found =
      let w : Watched = (detected_by clocks s f r).watched in
      let made : Cell → List Cell → Watched = λ c l. (record { clocks = clocks; shadow = slice_set l (word_of a) (kept a c); found = compared_all clocks a c f; orders = r }) in
      ap (λ (l : List Cell). with_watched u.slots (record { clocks = clocks; shadow = l; found = g; orders = r })) written
      ∙ ap (λ (h : Found). with_watched u.slots (record { clocks = clocks; shadow = slice_set t.cells (word_of a) (kept a (get_or t.cells (word_of a) no_accesses)); found = h; orders = r })) found
      ∙ ap (λ (l : List Cell). with_watched u.slots (made (get_or l (word_of a) no_accesses) l)) cells
      ∙ ap (λ (v : Watched). with_watched u.slots v) (sym (ap (λ c. access_at a c w) (slice_get-get_or s.cells (word_of a) no_accesses inside)))
      ∙ ap (λ (p : Slots). with_watched p (behind (operation.Access a) w)) stay
      ∙ noted_open t.slots (operation.Access a) w left'
      ∙ within_some (operation.Access a) (detected_by clocks s f r) t.slots left (touching inside ∙ sym slots)

-- PARTS THAT ARE TOUCHED

touched_by : (part : ℕ) (s : Slots) → (touched part s ≡ s) ⊎ (touched part s ≡ taking part s)
touched_by part s = go (has_slot part s) refl
  where
    go : (t : Bool) → has_slot part s ≡ t → (touched part s ≡ s) ⊎ (touched part s ≡ taking part s)
    go true e = inl (chosen (has_slot part s) s (taking part s) e)
    go false e = inr (passed_over (has_slot part s) s (taking part s) e)

pub taken_slot : (part : ℕ) (s : Slots) → nat_lt s.taken s.count ≡ true → taking part s ≡ record s { by_part = slice_set s.by_part part (Some s.taken); taken = s.taken + 1 }
taken_slot part s e = chosen (nat_lt s.taken s.count) (record s { by_part = slice_set s.by_part part (Some s.taken); taken = s.taken + 1 }) (record s { is_full = true }) e

no_slot_left : (part : ℕ) (s : Slots) → nat_lt s.taken s.count ≡ false → taking part s ≡ record s { is_full = true }
no_slot_left part s e = passed_over (nat_lt s.taken s.count) (record s { by_part = slice_set s.by_part part (Some s.taken); taken = s.taken + 1 }) (record s { is_full = true }) e

-- a property that a part that is touched keeps
touched_keeps : (P : Slots → Type 0) (part : ℕ) (s : Slots) → P s → (nat_lt s.taken s.count ≡ true → P (record s { by_part = slice_set s.by_part part (Some s.taken); taken = s.taken + 1 })) → P (record s { is_full = true }) → P (touched part s)
touched_keeps P part s is taken none = elim (touched_by part s) [
  | inl e ↦ subst P (sym e) is
  | inr e ↦ subst P (sym e) (go (nat_lt s.taken s.count) refl)
]
  where
    go : (t : Bool) → nat_lt s.taken s.count ≡ t → P (taking part s)
    go true f = subst P (sym (taken_slot part s f)) (taken f)
    go false f = subst P (sym (no_slot_left part s f)) none

pub touched_size : (part : ℕ) (s : Slots) → length (touched part s).by_part ≡ length s.by_part
touched_size part s = touched_keeps (λ (t : Slots). length t.by_part ≡ length s.by_part) part s refl (λ e. length-set s.by_part part (Some s.taken)) refl

-- a part that has a slot keeps it
set_some : (b : List (Option ℕ)) (part other slot : ℕ) → is_some (get_or b other None) ≡ true → is_some (get_or (slice_set b part (Some slot)) other None) ≡ true
set_some [] part other slot has = has
set_some (x ∷ xs) zero zero slot has = refl
set_some (x ∷ xs) zero (suc other) slot has = has
set_some (x ∷ xs) (suc part) zero slot has = has
set_some (x ∷ xs) (suc part) (suc other) slot has = set_some xs part other slot has

pub still_has : (part other : ℕ) (s : Slots) → has_slot other s ≡ true → has_slot other (touched part s) ≡ true
still_has part other s has = touched_keeps (λ (t : Slots). has_slot other t ≡ true) part s has (λ e. set_some s.by_part part other s.taken has) has

true_false : true ≡ false → ⊥
true_false e = absurd (cc)

-- where the room isn't used up afterwards it wasn't before
pub open_before : (part : ℕ) (s : Slots) → (touched part s).is_full ≡ false → s.is_full ≡ false
open_before part s = touched_keeps (λ (t : Slots). t.is_full ≡ false → s.is_full ≡ false) part s (λ e. e) (λ e f. f) (λ e. absurd (true_false e))

-- and the part has a slot
pub has_now : (part : ℕ) (s : Slots) → part < length s.by_part → (touched part s).is_full ≡ false → has_slot part (touched part s) ≡ true
has_now part s inside = go (has_slot part s) refl
  where
    on : (t : Bool) → nat_lt s.taken s.count ≡ t → (taking part s).is_full ≡ false → has_slot part (taking part s) ≡ true
    on true e left = subst (λ (t : Slots). has_slot part t ≡ true) (sym (taken_slot part s e)) (ap is_some (get_or-set_same s.by_part part (Some s.taken) None inside))
    on false e left = absurd (true_false (sym (ap (λ (t : Slots). t.is_full) (no_slot_left part s e)) ∙ left))

    go : (t : Bool) → has_slot part s ≡ t → (touched part s).is_full ≡ false → has_slot part (touched part s) ≡ true
    go true e left = still_has part part s e
    go false e left =
        let is : touched part s ≡ taking part s = passed_over (has_slot part s) s (taking part s) e in
        ap (λ (t : Slots). has_slot part t) is ∙ on (nat_lt s.taken s.count) refl (sym (ap (λ (t : Slots). t.is_full) is) ∙ left)

-- SO MANY PARTS

pub parts_size : (n first : ℕ) (s : Slots) → length (touched_parts n first s).by_part ≡ length s.by_part
parts_size zero first s = refl
parts_size (suc n) first s = touched_size (first + n) (touched_parts n first s) ∙ parts_size n first s

pub open_before_all : (n first : ℕ) (s : Slots) → (touched_parts n first s).is_full ≡ false → s.is_full ≡ false
open_before_all zero first s left = left
open_before_all (suc n) first s left = open_before_all n first s (open_before (first + n) (touched_parts n first s) left)

pub have_now : (n first : ℕ) (s : Slots) → first + n ≤ length s.by_part → (touched_parts n first s).is_full ≡ false
    → (part : ℕ) → first ≤ part → part < first + n → has_slot part (touched_parts n first s) ≡ true
have_now zero first s inside left part ge lt = absurd (omega (arith, ge, lt))
have_now (suc n) first s inside left part ge lt = elim (cases_eq part (first + n)) [
  | inl e ↦ subst (λ p. has_slot p (touched_parts (suc n) first s) ≡ true) (sym e)
      (has_now (first + n) (touched_parts n first s) (omega (arith, inside, parts_size n first s)) left)
  | inr other ↦ still_has (first + n) part (touched_parts n first s)
      (have_now n first s (omega (arith, inside)) (open_before (first + n) (touched_parts n first s) left) part ge (omega (arith, lt, other)))
]

-- those of so many words
not_zero : (n : ℕ) → (n == 0) ≡ false → 1 ≤ n
not_zero n e = grind (arith, nat_tests, e)

pub some_parts : (n first : ℕ) → 1 ≤ n → parts_over n first ≡ (first + n - 1) / 1024 + 1 - first / 1024
some_parts n first some = passed_over (n == 0) 0 ((first + n - 1) / 1024 + 1 - first / 1024) (let h : (n == 0) ≡ false = grind (arith, nat_tests, some) in h)

pub words_have : (n first : ℕ) (s : Slots) → 1 ≤ n → first / 1024 + parts_over n first ≤ length s.by_part → (touched_parts (parts_over n first) (first / 1024) s).is_full ≡ false
    → HaveSlots n first (touched_parts (parts_over n first) (first / 1024) s)
words_have n first s some inside left word ge lt =
    have_now (parts_over n first) (first / 1024) s inside left (word / 1024) (omega (arith, ge)) (omega (arith, some_parts n first some, ge, lt, some))

-- MEMORY THAT IS GIVEN ANEW
module _ (clocks : List Clock) (m : Block) (s : Shadowed) (f : Found) (r : Ordered) where
  pub renew_full : s.slots.is_full ≡ true → detected_by clocks s f r ≡ noted_one (operation.Renew m) (detected_by clocks s f r)
  renew_full full = within_none (operation.Renew m) (detected_by clocks s f r) full

  few_slots : (n : ℕ) → n ≡ few_words m s.cells → slots_for (operation.Renew m) (detected_by clocks s f r).watched s.slots ≡ touched_parts (parts_over n m.first) (m.first / 1024) s.slots
  few_slots n is = ap (λ k. touched_parts (parts_over k m.first) (m.first / 1024) s.slots) (sym is)

  few_renewed : (n : ℕ) (c : List Cell) → n ≡ few_words m s.cells → c ≡ s.cells
      → (let x : Watched = record { clocks = clocks; shadow = renewed n m c; found = f; orders = r } in x) ≡ behind (operation.Renew m) (detected_by clocks s f r).watched
  few_renewed n c is cells =
      ap (λ (l : List Cell). (let x : Watched = record { clocks = clocks; shadow = renewed n m l; found = f; orders = r } in x)) cells
      ∙ ap (λ k. (let x : Watched = record { clocks = clocks; shadow = renewed k m s.cells; found = f; orders = r } in x)) is

  -- where the memory has none of its words
  pub renew_none : (n : ℕ) → s.slots.is_full ≡ false → n ≡ few_words m s.cells → n ≡ 0 → detected_by clocks s f r ≡ noted_one (operation.Renew m) (detected_by clocks s f r)
  renew_none n left is none =
      let few : 0 ≡ few_words m s.cells = sym none ∙ is in
      ap (λ (v : Watched). with_watched s.slots v) (few_renewed 0 s.cells few refl)
      ∙ noted_open s.slots (operation.Renew m) (detected_by clocks s f r).watched left
      ∙ within_some (operation.Renew m) (detected_by clocks s f r) s.slots left (few_slots 0 few)

  pub renew_used_up : (n : ℕ) (t : Shadowed) → s.slots.is_full ≡ false → n ≡ few_words m s.cells → t.slots ≡ touched_parts (parts_over n m.first) (m.first / 1024) s.slots → t.cells ≡ s.cells → t.slots.is_full ≡ true
      → detected_by clocks t f r ≡ noted_one (operation.Renew m) (detected_by clocks s f r)
  renew_used_up n t left is slots cells full =
      ap (λ (l : List Cell). with_watched t.slots (record { clocks = clocks; shadow = l; found = f; orders = r })) cells
      ∙ noted_full t.slots (operation.Renew m) (detected_by clocks s f r).watched full
      ∙ within_some (operation.Renew m) (detected_by clocks s f r) t.slots left (few_slots n is ∙ sym slots)

  pub renew_noted : (n : ℕ) (t u : Shadowed) → s.slots.is_full ≡ false → n ≡ few_words m s.cells → t.slots ≡ touched_parts (parts_over n m.first) (m.first / 1024) s.slots → t.cells ≡ s.cells → t.slots.is_full ≡ false
      → u.slots ≡ t.slots → u.cells ≡ renewed n m t.cells → detected_by clocks u f r ≡ noted_one (operation.Renew m) (detected_by clocks s f r)
  renew_noted n t u left is slots cells left' stay written =
      ap (λ (l : List Cell). with_watched u.slots (record { clocks = clocks; shadow = l; found = f; orders = r })) written
      ∙ ap (λ (v : Watched). with_watched u.slots v) (few_renewed n t.cells is cells)
      ∙ ap (λ (p : Slots). with_watched p (behind (operation.Renew m) (detected_by clocks s f r).watched)) stay
      ∙ noted_open t.slots (operation.Renew m) (detected_by clocks s f r).watched left'
      ∙ within_some (operation.Renew m) (detected_by clocks s f r) t.slots left (few_slots n is ∙ sym slots)

-- NOTHING IS LEFT OUT

-- the room wasn't used up before an operation after which it isn't
for_open : (o : Operation) (w : Watched) (s : Slots) → (slots_for o w s).is_full ≡ false → s.is_full ≡ false
for_open (operation.Access a) w s = go (nat_lt (word_of a) (length w.shadow)) refl
  where
    go : (t : Bool) → nat_lt (word_of a) (length w.shadow) ≡ t → (slots_for (operation.Access a) w s).is_full ≡ false → s.is_full ≡ false
    go true e left = open_before (word_of a / 1024) s (sym (ap (λ (p : Slots). p.is_full) (chosen (nat_lt (word_of a) (length w.shadow)) (touched (word_of a / 1024) s) s e)) ∙ left)
    go false e left = sym (ap (λ (p : Slots). p.is_full) (passed_over (nat_lt (word_of a) (length w.shadow)) (touched (word_of a / 1024) s) s e)) ∙ left
for_open (operation.Pass from to p) w s = λ left. left
for_open (operation.Lock l p) w s = λ left. left
for_open (operation.Renew m) w s = open_before_all (parts_over (few_words m w.shadow) m.first) (m.first / 1024) s

pub open_one : (o : Operation) (d : Detected) → is_full (noted_one o d) ≡ false → is_full d ≡ false
open_one o d = go (is_full d) refl
  where
    go : (t : Bool) → is_full d ≡ t → is_full (noted_one o d) ≡ false → is_full d ≡ false
    go true e left = ap is_full (within_none o d e) ∙ left
    go false e left = e

pub watched_one : (o : Operation) (d : Detected) → is_full (noted_one o d) ≡ false → (noted_one o d).watched ≡ behind o d.watched
watched_one o d left =
    let s : Slots = slots_for o d.watched d.slots in
    let is : noted_with s o d.watched ≡ noted_one o d = within_some o d s (open_one o d left) refl in
    let still : s.is_full ≡ false = ap is_full is ∙ left in
    ap (λ (x : Detected). x.watched) (sym is) ∙ passed_over s.is_full d.watched (behind o d.watched) still

pub open_all : (os : List Operation) (d : Detected) → is_full (noted_all os d) ≡ false → is_full d ≡ false
open_all [] d left = left
open_all (o ∷ os) d left = open_one o d (open_all os (noted_one o d) left)

pub watched_all : (os : List Operation) (d : Detected) → is_full (noted_all os d) ≡ false → (noted_all os d).watched ≡ behind_all os d.watched
watched_all [] d left = refl
watched_all (o ∷ os) d left =
    watched_all os (noted_one o d) left ∙ ap (λ (w : Watched). behind_all os w) (watched_one o d (open_all os (noted_one o d) left))

pub nothing_left_out : NothingIsLeftOut
nothing_left_out holders words slots os left = watched_all os (fresh_within holders words slots) left

-- behind two lists of operations
pub within_both : (os more : List Operation) (d : Detected) → noted_all (os ++ more) d ≡ noted_all more (noted_all os d)
within_both [] more d = refl
within_both (o ∷ os) more d = within_both os more (noted_one o d)
