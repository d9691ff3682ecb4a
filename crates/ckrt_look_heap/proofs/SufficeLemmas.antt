-- A room for all parts isn't used up.
use Rattle.std.proofs.Common.{◌≡◌, ◌≤◌, ◌<◌, ℕ, zero, suc, ◌+◌, ◌-◌, ◌/◌, ◌%◌, ◌==◌, min, nat_lt, Bool, true, false, if◌then◌else◌, List, [], ◌∷◌, length, get_or, slice_get, slice_set, replicate, Option, None, Some, refl, sym, ◌∙◌, subst, arith}
use Rattle.std.proofs.lemmas.Bool.Decides.{nat_tests}
use Rattle.std.proofs.lemmas.List.{length-replicate, length-set}
use Rattle.ckrt_look_heap.specs.declared.block.Access.{Access}
use Rattle.ckrt_look_heap.specs.declared.block.Cell.{Cell}
use Rattle.ckrt_look_heap.specs.declared.block.Cell.TheVariants as cell
use Rattle.ckrt_look_calls.specs.declared.moment.Moment.{Moment}
use Rattle.ckrt_look_heap.specs.declared.block.Part.{Part}
use Rattle.ckrt_look_heap.specs.declared.shadow.Note.{Note}
use Rattle.ckrt_look_heap.specs.declared.shadow.Note.TheVariants as note
use Rattle.ckrt_look_heap.specs.Parts.{Room, split, split_at, split_for, taking}
use Rattle.ckrt_look_heap.specs.Shadow.{Heap, behind, disowned, few, filled, freed_as, given_back, head_of, if_told, is_begin, left_by, part_of, used_as, wrong}
use Rattle.ckrt_look_heap.specs.Within.{Noted, RoomForAllSuffices, fresh_within, noted_all, noted_one, room_by, room_by_free, room_for}
use Rattle.ckrt_look_heap.proofs.ListLemmas.{chosen}
use Rattle.ckrt_look_heap.proofs.WithinLemmas.{is_open, within_some}

-- HOW MANY PARTS HAVE A SLOT
some_count : List Bool → ℕ
some_count [] = 0
some_count (false ∷ b) = some_count b
some_count (true ∷ b) = suc (some_count b)

at_most : (b : List Bool) → some_count b ≤ length b
unfolding some_count
at_most [] = omega arith
at_most (false ∷ b) = omega (arith, at_most b)
at_most (true ∷ b) = omega (arith, at_most b)

fewer : (b : List Bool) (p : ℕ) → p < length b → get_or b p false ≡ false → some_count b < length b
unfolding some_count
fewer [] p l none = absurd (omega (arith, l))
fewer (false ∷ b) zero l none = omega (arith, at_most b)
fewer (false ∷ b) (suc p) l none = omega (arith, fewer b p (omega (arith, l)) none)
fewer (true ∷ b) zero l none = absurd (cc)
fewer (true ∷ b) (suc p) l none = omega (arith, fewer b p (omega (arith, l)) none)

one_more : (b : List Bool) (p : ℕ) → p < length b → get_or b p false ≡ false → some_count (slice_set b p true) ≡ some_count b + 1
unfolding some_count
one_more [] p l none = absurd (omega (arith, l))
one_more (false ∷ b) zero l none = omega arith
one_more (false ∷ b) (suc p) l none = one_more b p (omega (arith, l)) none
one_more (true ∷ b) zero l none = absurd (cc)
one_more (true ∷ b) (suc p) l none = omega (arith, one_more b p (omega (arith, l)) none)

none_yet : (n : ℕ) → some_count (replicate n false) ≡ 0
unfolding some_count
none_yet zero = refl
none_yet (suc n) = none_yet n

-- A ROOM FOR ALL
record Suffices (words : ℕ) (r : Room) : Type 0 where
  pub left : r.is_full ≡ false
  pub parts : length r.has ≡ words / 1024 + 1
  pub few : r.taken ≡ some_count r.has
  pub enough : words / 1024 + 1 ≤ r.count

choice_suffices : (words : ℕ) (t : Bool) (r q : Room) → (t ≡ true → Suffices words r) → (t ≡ false → Suffices words q) → Suffices words (if t then r else q)
choice_suffices words true r q first second = first refl
choice_suffices words false r q first second = second refl

split_suffices : (words part : ℕ) (r : Room) → part < words / 1024 + 1 → Suffices words r → Suffices words (split part r)
split_suffices words part r inside is = choice_suffices words (get_or r.has part false) r (taking part r) (λ _. is) (λ none.
    let less : part < length r.has = omega (arith, inside, is.parts) in
    let free : nat_lt r.taken r.count ≡ true = (let h : r.taken < r.count = omega (arith, fewer r.has part less none, is.few, is.parts, is.enough) in grind (arith, nat_tests, h)) in
    subst (Suffices words) (sym (chosen (nat_lt r.taken r.count) (record r { has = slice_set r.has part true; taken = r.taken + 1 }) (record r { is_full = true }) free)) (record {
      left = is.left;
      parts = length-set r.has part true ∙ is.parts;
      few = omega (arith, is.few, one_more r.has part less none);
      enough = is.enough;
    }))

at_suffices : (words word : ℕ) (r : Room) → word ≤ words → Suffices words r → Suffices words (split_at word r)
at_suffices words word r inside is = choice_suffices words (word % 1024 == 0) r (split (word / 1024) r) (λ _. is) (λ _. split_suffices words (word / 1024) r (omega (arith, inside)) is)

for_suffices : (words n first : ℕ) (r : Room) → (1 ≤ n → first + n ≤ words) → Suffices words r → Suffices words (split_for n first r)
for_suffices words n first r inside is = choice_suffices words (n == 0) r (split_at (first + n) (split_at first r)) (λ _. is) (λ some.
    let last : first + n ≤ words = inside (grind (arith, nat_tests, some)) in
    at_suffices words (first + n) (split_at first r) last (at_suffices words first r (omega (arith, last)) is))

few_last : (first count all : ℕ) → 1 ≤ min count (all - first) → first + min count (all - first) ≤ all
few_last first count all some = grind (arith, some)

by_suffices : (words : ℕ) (p : Part) (h : Heap) (r : Room) → length h.cells ≡ words → Suffices words r → Suffices words (room_by p h r)
by_suffices words p h r size is =
    for_suffices words (few p h.cells) p.first r (λ some. omega (arith, few_last p.first p.count (length h.cells) some, size)) is

free_suffices : (words : ℕ) (a : Access) (c : Cell) (h : Heap) (r : Room) → length h.cells ≡ words → Suffices words r → Suffices words (room_by_free a c h r)
free_suffices words a cell.Unknown h r size is = is
free_suffices words a cell.Unowned h r size is = is
free_suffices words a (cell.Given b) h r size is = choice_suffices words (is_begin a b) (room_by (part_of b) h r) r (λ _. by_suffices words (part_of b) h r size is) (λ _. is)
free_suffices words a (cell.GivenBack b m) h r size is = is
free_suffices words a (cell.Ended b m) h r size is = is

room_suffices : (words : ℕ) (n : Note) (h : Heap) (r : Room) → length h.cells ≡ words → Suffices words r → Suffices words (room_for n h r)
room_suffices words (note.Use a) h r size is = is
room_suffices words (note.Give b) h r size is = by_suffices words (part_of b) h r size is
room_suffices words (note.GiveBack a t) h r size is = free_suffices words a (get_or h.cells (head_of a) cell.Unknown) h r size is
room_suffices words (note.Disown p m) h r size is = by_suffices words p h r size is
room_suffices words (note.End e) h r size is = is

-- the memory has as many words after each note
filled_size : (n first : ℕ) (c : Cell) (l : List Cell) → length (filled n first c l) ≡ length l
filled_size zero first c l = refl
filled_size (suc n) first c l = length-set (filled n first c l) (first + n) c ∙ filled_size n first c l

disowned_size : (n first : ℕ) (m : Moment) (l : List Cell) → length (disowned n first m l) ≡ length l
disowned_size zero first m l = refl
disowned_size (suc n) first m l =
    length-set (disowned n first m l) (first + n) (left_by m (get_or (disowned n first m l) (first + n) cell.Unknown)) ∙ disowned_size n first m l

used_size : (a : Access) (o : Option Cell) (h : Heap) → length (used_as a o h).cells ≡ length h.cells
used_size a None h = refl
used_size a (Some c) h = refl

told_size : (t : Bool) (a : Access) (c : Cell) (h : Heap) → length (if_told t a c h).cells ≡ length h.cells
told_size true a c h = refl
told_size false a c h = refl

choice_size : (t : Bool) (g k : Heap) (n : ℕ) → length g.cells ≡ n → length k.cells ≡ n → length (if t then g else k).cells ≡ n
choice_size true g k n first second = first
choice_size false g k n first second = second

freed_size : (t : Bool) (a : Access) (c : Cell) (h : Heap) → length (freed_as t a c h).cells ≡ length h.cells
freed_size t a cell.Unknown h = told_size _ a cell.Unknown h
freed_size t a cell.Unowned h = told_size t a cell.Unowned h
freed_size t a (cell.Given b) h = choice_size (is_begin a b) (given_back a.moment b h) (if_told t a (cell.Given b) h) (length h.cells) (filled_size (few (part_of b) h.cells) b.first (cell.GivenBack b a.moment) h.cells) (told_size t a (cell.Given b) h)
freed_size t a (cell.GivenBack b m) h = told_size t a (cell.GivenBack b m) h
freed_size t a (cell.Ended b m) h = told_size t a (cell.Ended b m) h

pub behind_size : (n : Note) (h : Heap) → length (behind n h).cells ≡ length h.cells
behind_size (note.Use a) h = used_size a (wrong a (slice_get h.cells (a.address / 4))) h
behind_size (note.Give b) h = filled_size (few (part_of b) h.cells) b.first (cell.Given b) h.cells
behind_size (note.GiveBack a t) h = freed_size t a (get_or h.cells (head_of a) cell.Unknown) h
behind_size (note.Disown p m) h = disowned_size (few p h.cells) p.first m h.cells
behind_size (note.End e) h = refl

record Fine (words : ℕ) (s : Noted) : Type 0 where
  pub room : Suffices words s.room
  pub size : length s.heap.cells ≡ words

fine_behind : (words : ℕ) (n : Note) (s : Noted) → Fine words s → Fine words (noted_one n s)
fine_behind words n s is =
    let r : Room = room_for n s.heap s.room in
    let more : Suffices words r = room_suffices words n s.heap s.room is.size is.room in
    subst (Fine words) (is_open r s.heap (behind n s.heap) more.left ∙ within_some n s is.room.left) (record {
      room = more;
      size = behind_size n s.heap ∙ is.size;
    })

fine_all : (words : ℕ) (ns : List Note) (s : Noted) → Fine words s → Fine words (noted_all ns s)
fine_all words [] s is = is
fine_all words (n ∷ ns) s is = fine_all words ns (noted_one n s) (fine_behind words n s is)

pub room_for_all : RoomForAllSuffices
room_for_all w words slots ns enough =
    (fine_all words ns (fresh_within w words slots) (record {
      room = record {
        left = refl;
        parts = length-replicate (words / 1024 + 1) false;
        few = sym (none_yet (words / 1024 + 1));
        enough = enough;
      };
      size = length-replicate words cell.Unknown;
    })).room.left
