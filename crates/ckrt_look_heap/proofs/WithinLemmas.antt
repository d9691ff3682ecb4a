-- What is noted within a room.
use Rattle.std.proofs.Common.{◌≡◌, ℕ, ◌+◌, ◌/◌, ◌%◌, nat_lt, ◌==◌, Bool, true, false, if◌then◌else◌, List, [], ◌∷◌, get_or, slice_set, refl, sym, ap, ◌∙◌, true≢false}
use Rattle.ckrt_look_heap.specs.declared.block.Access.{Access}
use Rattle.ckrt_look_heap.specs.declared.block.Cell.{Cell}
use Rattle.ckrt_look_heap.specs.declared.block.Cell.TheVariants as cell
use Rattle.ckrt_look_heap.specs.declared.shadow.Note.{Note}
use Rattle.ckrt_look_heap.specs.declared.shadow.Note.TheVariants as note
use Rattle.ckrt_look_heap.specs.Parts.{Room, split, split_at, split_for, taking}
use Rattle.ckrt_look_heap.specs.Shadow.{Heap, behind, behind_all, few, head_of, is_begin, part_of}
use Rattle.ckrt_look_heap.specs.Within.{Noted, NothingIsLeftOut, fresh_within, is_full, noted_all, noted_one, noted_with, room_by, room_by_free, room_for, with_room}
use Rattle.ckrt_look_heap.proofs.ListLemmas.{chosen, passed_over}

-- A room that is used up
pub within_none : (n : Note) (s : Noted) → is_full s ≡ true → s ≡ noted_one n s
within_none n s full = sym (chosen (is_full s) s (noted_with (room_for n s.heap s.room) n s.heap) full)

-- one that isn't
pub within_some : (n : Note) (s : Noted) → is_full s ≡ false → with_room (room_for n s.heap s.room) s.heap (behind n s.heap) ≡ noted_one n s
within_some n s left = sym (passed_over (is_full s) s (noted_with (room_for n s.heap s.room) n s.heap) left)

abbrev pub of_both : Heap → Room → Noted
of_both h r = record { heap = h; room = r }

pub stays_full : (r : Room) (h g : Heap) → r.is_full ≡ true → of_both h r ≡ with_room r h g
stays_full r h g e = ap (λ (k : Heap). of_both k r) (sym (chosen r.is_full h g e))

pub is_open : (r : Room) (h g : Heap) → r.is_full ≡ false → of_both g r ≡ with_room r h g
is_open r h g e = ap (λ (k : Heap). of_both k r) (sym (passed_over r.is_full h g e))

-- one that isn't, and of which the note needs nothing
pub within_same : (n : Note) (s : Noted) (h : Heap) → is_full s ≡ false → room_for n s.heap s.room ≡ s.room → h ≡ behind n s.heap → of_both h s.room ≡ noted_one n s
within_same n s h left same is =
    ap (λ (k : Heap). of_both k s.room) is ∙ is_open s.room s.heap (behind n s.heap) left
    ∙ ap (λ (r : Room). with_room r s.heap (behind n s.heap)) (sym same) ∙ within_some n s left

-- THE ROOM WASN'T USED UP before it isn't

pub open_choice : (t : Bool) (r q p : Room) → (r.is_full ≡ false → p.is_full ≡ false) → (q.is_full ≡ false → p.is_full ≡ false) → (if t then r else q).is_full ≡ false → p.is_full ≡ false
open_choice true r q p first second left = first left
open_choice false r q p first second left = second left

open_taking : (part : ℕ) (r : Room) → (taking part r).is_full ≡ false → r.is_full ≡ false
open_taking part r = open_choice (nat_lt r.taken r.count) (record r { has = slice_set r.has part true; taken = r.taken + 1 }) (record r { is_full = true }) r (λ e. e) (λ e. absurd (true≢false e))

open_split : (part : ℕ) (r : Room) → (split part r).is_full ≡ false → r.is_full ≡ false
open_split part r = open_choice (get_or r.has part false) r (taking part r) r (λ e. e) (open_taking part r)

pub open_at : (word : ℕ) (r : Room) → (split_at word r).is_full ≡ false → r.is_full ≡ false
open_at word r = open_choice (word % 1024 == 0) r (split (word / 1024) r) r (λ e. e) (open_split (word / 1024) r)

open_for : (n first : ℕ) (r : Room) → (split_for n first r).is_full ≡ false → r.is_full ≡ false
open_for n first r = open_choice (n == 0) r (split_at (first + n) (split_at first r)) r (λ e. e) (λ e. open_at first r (open_at (first + n) (split_at first r) e))

open_free : (a : Access) (c : Cell) (h : Heap) (r : Room) → (room_by_free a c h r).is_full ≡ false → r.is_full ≡ false
open_free a cell.Unknown h r left = left
open_free a cell.Unowned h r left = left
open_free a (cell.Given b) h r left = open_choice (is_begin a b) (room_by (part_of b) h r) r r (open_for (few (part_of b) h.cells) b.first r) (λ e. e) left
open_free a (cell.GivenBack b m) h r left = left
open_free a (cell.Ended b m) h r left = left

open_room : (n : Note) (h : Heap) (r : Room) → (room_for n h r).is_full ≡ false → r.is_full ≡ false
open_room (note.Use a) h r left = left
open_room (note.Give b) h r left = open_for (few (part_of b) h.cells) b.first r left
open_room (note.GiveBack a t) h r left = open_free a (get_or h.cells (head_of a) cell.Unknown) h r left
open_room (note.Disown p m) h r left = open_for (few p h.cells) p.first r left
open_room (note.End e) h r left = left

pub open_one : (n : Note) (s : Noted) → is_full (noted_one n s) ≡ false → is_full s ≡ false
open_one n s = go (is_full s) refl
  where
    go : (t : Bool) → is_full s ≡ t → is_full (noted_one n s) ≡ false → is_full s ≡ false
    go true e left = ap is_full (within_none n s e) ∙ left
    go false e left = e

pub heap_one : (n : Note) (s : Noted) → is_full (noted_one n s) ≡ false → (noted_one n s).heap ≡ behind n s.heap
heap_one n s left =
    let r : Room = room_for n s.heap s.room in
    let is : with_room r s.heap (behind n s.heap) ≡ noted_one n s = within_some n s (open_one n s left) in
    let still : r.is_full ≡ false = ap is_full is ∙ left in
    ap (λ (x : Noted). x.heap) (sym is) ∙ passed_over r.is_full s.heap (behind n s.heap) still

pub open_all : (ns : List Note) (s : Noted) → is_full (noted_all ns s) ≡ false → is_full s ≡ false
open_all [] s left = left
open_all (n ∷ ns) s left = open_one n s (open_all ns (noted_one n s) left)

pub heap_all : (ns : List Note) (s : Noted) → is_full (noted_all ns s) ≡ false → (noted_all ns s).heap ≡ behind_all ns s.heap
heap_all [] s left = refl
heap_all (n ∷ ns) s left =
    heap_all ns (noted_one n s) left ∙ ap (λ (h : Heap). behind_all ns h) (heap_one n s (open_all ns (noted_one n s) left))

pub nothing_left_out : NothingIsLeftOut
nothing_left_out w words slots ns left = heap_all ns (fresh_within w words slots) left

-- the end needs no room
pub end_keeps_the_room : (has_ended : Bool) (s : Noted) → is_full (noted_all (note.End has_ended ∷ []) s) ≡ is_full s
end_keeps_the_room has_ended s = go (is_full s) refl
  where
    go : (t : Bool) → is_full s ≡ t → is_full (noted_one (note.End has_ended) s) ≡ is_full s
    go true full = ap is_full (sym (within_none (note.End has_ended) s full))
    go false left = ap is_full (sym (within_some (note.End has_ended) s left))
