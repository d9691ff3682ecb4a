-- What a shadow notes in its room.
use Rattle.std.proofs.Common.{◌≡◌, ℕ, ◌/◌, Bool, true, false, if◌then◌else◌, List, get_or, slice_get, Option, None, Some, refl, sym, ap, ◌∙◌}
use Rattle.ckrt_look_heap.specs.declared.block.Access.{Access}
use Rattle.ckrt_look_heap.specs.declared.block.Block.{Block}
use Rattle.ckrt_look_heap.specs.declared.block.Cell.{Cell}
use Rattle.ckrt_look_heap.specs.declared.block.Cell.TheVariants as cell
use Rattle.ckrt_look_heap.specs.declared.block.Change.{Change}
use Rattle.ckrt_look_heap.specs.declared.block.Change.TheVariants as change
use Rattle.ckrt_look_calls.specs.declared.moment.Moment.{Moment}
use Rattle.ckrt_look_heap.specs.declared.block.Part.{Part}
use Rattle.ckrt_look_heap.specs.declared.shadow.Note.TheVariants as note
use Rattle.ckrt_look_heap.specs.Notes.{unless_in_heap}
use Rattle.ckrt_look_heap.specs.Parts.{Parted, Room, altered, split_for}
use Rattle.ckrt_look_heap.specs.Shadow.{Found, Heap, ended, few, freed_as, given_back, head_of, if_told, is_begin, noted, part_of, used_as, with_error, wrong}
use Rattle.ckrt_look_heap.specs.Within.{Noted, changed_in, changes, is_full, noted_all, noted_one, room_by, room_by_free, with_room, with_told}
use Rattle.ckrt_look_heap.proofs.CellLemmas.{disowned_is, filled_is}
use Rattle.ckrt_look_heap.proofs.ListLemmas.{chosen, passed_over}
use Rattle.ckrt_look_heap.proofs.WithinLemmas.{is_open, of_both, stays_full, within_none, within_some}

abbrev pub heap_of : List Cell → Found → (w t e : Bool) → Heap
heap_of cells f w t e = record { cells = cells; found = f; is_whole = w; is_told = t; has_ended = e }

abbrev pub noted_of : Parted → Found → (w t e : Bool) → Noted
noted_of p f w t e = record { heap = heap_of p.cells f w t e; room = p.room }

-- SOMETHING ELSE IS TOLD of a part
module _ (p : Part) (ch : Change) (old : Parted) (f : Found) (w t e : Bool) (n : ℕ) where
  pub change_none : n ≡ few p old.cells → n ≡ 0 → old.room.is_full ≡ false → noted_of old f w t e ≡ changes p ch (noted_of old f w t e)
  change_none is none left =
      let h : Heap = heap_of old.cells f w t e in
      is_open old.room h h left
      ∙ ap (λ k. with_room (split_for k p.first old.room) h (heap_of (altered k p.first ch old.cells) f w t e)) (let zero_is : 0 ≡ few p old.cells = sym none ∙ is in zero_is)

  pub change_some : (new : Parted) → n ≡ few p old.cells → new.room ≡ split_for n p.first old.room → new.cells ≡ (if new.room.is_full then old.cells else altered n p.first ch old.cells)
      → noted_of new f w t e ≡ changes p ch (noted_of old f w t e)
  change_some new is room cells = go new.room.is_full refl
    where
      h : Heap
      h = heap_of old.cells f w t e

      same : with_room new.room h (changed_in p ch h) ≡ changes p ch (noted_of old f w t e)
      same = ap (λ (r : Room). with_room r h (changed_in p ch h)) (room ∙ ap (λ k. split_for k p.first old.room) is)

      go : (b : Bool) → new.room.is_full ≡ b → noted_of new f w t e ≡ changes p ch (noted_of old f w t e)
      go true full =
          ap (λ (l : List Cell). of_both (heap_of l f w t e) new.room) (cells ∙ chosen new.room.is_full old.cells (altered n p.first ch old.cells) full)
          ∙ stays_full new.room h (changed_in p ch h) full ∙ same
      go false left =
          ap (λ (l : List Cell). of_both (heap_of l f w t e) new.room) (cells ∙ passed_over new.room.is_full old.cells (altered n p.first ch old.cells) left ∙ ap (λ k. altered k p.first ch old.cells) is)
          ∙ is_open new.room h (changed_in p ch h) left ∙ same

-- A BLOCK IS GIVEN
pub give_noted : (b : Block) (s new : Noted) → is_full s ≡ false → new ≡ changes (part_of b) (change.Told (cell.Given b)) s → new ≡ noted_one (note.Give b) s
give_noted b s new left is =
    is
    ∙ ap (λ (l : List Cell). with_room (room_by (part_of b) s.heap s.room) s.heap (record s.heap { cells = l })) (filled_is (few (part_of b) s.heap.cells) b.first (cell.Given b) s.heap.cells)
    ∙ within_some (note.Give b) s left

-- SOMETHING IS TOLD of memory that is no block's
told_twice : (b : Bool) (h g : Heap) → (if b then (if b then h else g) else record (if b then h else g) { is_told = true }) ≡ (if b then h else record g { is_told = true })
told_twice true h g = refl
told_twice false h g = refl

told_after : (r : Room) (h g : Heap) → with_told (with_room r h g) ≡ with_room r h (record g { is_told = true })
told_after r h g = ap (λ (k : Heap). of_both k r) (told_twice r.is_full h g)

pub disown_noted : (p : Part) (m : Moment) (s one new : Noted) → is_full s ≡ false → one ≡ changes p (change.Left m) s → new ≡ with_told one → new ≡ noted_one (note.Disown p m) s
disown_noted p m s one new left first second =
    second ∙ ap with_told first ∙ told_after (room_by p s.heap s.room) s.heap (changed_in p (change.Left m) s.heap)
    ∙ ap (λ (l : List Cell). with_room (room_by p s.heap s.room) s.heap (record s.heap { cells = l; is_told = true })) (disowned_is (few p s.heap.cells) p.first m s.heap.cells)
    ∙ within_some (note.Disown p m) s left

-- A BLOCK IS GIVEN BACK
pub back_noted : (a : Access) (b : Block) (t : Bool) (s new : Noted) → is_begin a b ≡ true → new ≡ changes (part_of b) (change.Told (cell.GivenBack b a.moment)) s
    → new ≡ with_room (room_by_free a (cell.Given b) s.heap s.room) s.heap (freed_as t a (cell.Given b) s.heap)
back_noted a b t s new begin is =
    is
    ∙ ap (λ (l : List Cell). with_room (room_by (part_of b) s.heap s.room) s.heap (record s.heap { cells = l })) (filled_is (few (part_of b) s.heap.cells) b.first (cell.GivenBack b a.moment) s.heap.cells)
    ∙ ap (λ (r : Room). with_room r s.heap (given_back a.moment b s.heap)) (sym (chosen (is_begin a b) (room_by (part_of b) s.heap s.room) s.room begin))
    ∙ ap (λ (h : Heap). with_room (room_by_free a (cell.Given b) s.heap s.room) s.heap h) (sym (chosen (is_begin a b) (given_back a.moment b s.heap) (if_told t a (cell.Given b) s.heap) begin))

pub given_told : (a : Access) (b : Block) (t : Bool) (s new : Noted) → is_full s ≡ false → is_begin a b ≡ false → new ≡ of_both (if_told t a (cell.Given b) s.heap) s.room
    → new ≡ with_room (room_by_free a (cell.Given b) s.heap s.room) s.heap (freed_as t a (cell.Given b) s.heap)
given_told a b t s new left other is =
    is ∙ is_open s.room s.heap (if_told t a (cell.Given b) s.heap) left
    ∙ ap (λ (r : Room). with_room r s.heap (if_told t a (cell.Given b) s.heap)) (sym (passed_over (is_begin a b) (room_by (part_of b) s.heap s.room) s.room other))
    ∙ ap (λ (h : Heap). with_room (room_by_free a (cell.Given b) s.heap s.room) s.heap h) (sym (passed_over (is_begin a b) (given_back a.moment b s.heap) (if_told t a (cell.Given b) s.heap) other))

pub error_told : (s new : Noted) (g : Heap) → is_full s ≡ false → new ≡ of_both g s.room → new ≡ with_room s.room s.heap g
error_told s new g left is = is ∙ is_open s.room s.heap g left

pub free_noted : (a : Access) (c : Cell) (t : Bool) (s one new : Noted) → is_full s ≡ false → c ≡ get_or s.heap.cells (head_of a) cell.Unknown
    → one ≡ with_room (room_by_free a c s.heap s.room) s.heap (freed_as t a c s.heap) → new ≡ with_told one → new ≡ noted_one (note.GiveBack a t) s
free_noted a c t s one new left is first second =
    second ∙ ap with_told first ∙ told_after (room_by_free a c s.heap s.room) s.heap (freed_as t a c s.heap)
    ∙ ap (λ (d : Cell). with_room (room_by_free a d s.heap s.room) s.heap (record (freed_as t a d s.heap) { is_told = true })) is
    ∙ within_some (note.GiveBack a t) s left

-- A LOAD OR A STORE
pub use_some : (a : Access) (c : Cell) (p : Parted) (f g : Found) (w t e : Bool) → p.room.is_full ≡ false → wrong a (slice_get p.cells (a.address / 4)) ≡ Some c → g ≡ noted a c f
    → noted_of p g w t e ≡ noted_one (note.Use a) (noted_of p f w t e)
use_some a c p f g w t e left error is =
    let h : Heap = heap_of p.cells f w t e in
    ap (λ (k : Found). noted_of p k w t e) is ∙ is_open p.room h (with_error a c h) left
    ∙ ap (λ (o : Option Cell). with_room p.room h (used_as a o h)) (sym error) ∙ within_some (note.Use a) (noted_of p f w t e) left

pub use_none : (a : Access) (s : Noted) → wrong a (slice_get s.heap.cells (a.address / 4)) ≡ None → s ≡ noted_one (note.Use a) s
use_none a s right = go (is_full s) refl
  where
    go : (b : Bool) → is_full s ≡ b → s ≡ noted_one (note.Use a) s
    go true full = within_none (note.Use a) s full
    go false left =
        is_open s.room s.heap s.heap left ∙ ap (λ (o : Option Cell). with_room s.room s.heap (used_as a o s.heap)) (sym right) ∙ within_some (note.Use a) s left

-- what is right changes nothing, within the heap or not
pub right_unnoted : (k : Bool) (a : Access) (s : Noted) → wrong a (slice_get s.heap.cells (a.address / 4)) ≡ None → noted_all (unless_in_heap k (note.Use a)) s ≡ s
right_unnoted true a s right = refl
right_unnoted false a s right = sym (use_none a s right)

-- THE END
pub end_noted : (p : Parted) (f : Found) (w t e b : Bool) → p.room.is_full ≡ false → noted_of p f w t b ≡ noted_one (note.End b) (noted_of p f w t e)
end_noted p f w t e b left =
    let h : Heap = heap_of p.cells f w t e in is_open p.room h (ended b h) left ∙ within_some (note.End b) (noted_of p f w t e) left

pub end_open : (b : Bool) (s new : Noted) → is_full s ≡ false → new ≡ noted_one (note.End b) s → is_full new ≡ false
end_open b s new left is = ap is_full (is ∙ sym (within_some (note.End b) s left)) ∙ left
