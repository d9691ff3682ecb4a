-- What a shadow of a heap has noted of a run, and that it keeps its sizes.
use Rattle.std.proofs.Common.{◌≡◌, ◌∙◌, ◌+◌, ◌/◌, ◌%◌, ◌==◌, ◌&&◌, ℕ, nat_lt, Bool, true, false, List, [], ◌∷◌, length, get_or, slice_get, slice_set, Option, Some, None, refl, sym, ap}
use Rattle.std.specs.Prelude.{if◌then◌else◌}
use Rattle.std.proofs.lemmas.List.{length-replicate}
use Rattle.ckrt_events.specs.declared.event.Event.{Event}
use Rattle.ckrt_machine.specs.Events.{fold, step}
use Rattle.ckrt_machine.specs.Steps.{State}
use Rattle.ckrt_look_heap.specs.declared.block.Access.{Access}
use Rattle.ckrt_look_heap.specs.declared.block.Cell.{Cell}
use Rattle.ckrt_look_heap.specs.declared.block.Cell.TheVariants as cell
use Rattle.ckrt_look_heap.specs.declared.finding.Finding.{Finding}
use Rattle.ckrt_look_heap.specs.declared.shadow.Note.{Note}
use Rattle.ckrt_look_heap.specs.declared.shadow.Note.TheVariants as note
use Rattle.ckrt_look_heap.specs.Parts.{Room, split, split_at, split_for, taking}
use Rattle.ckrt_look_calls.specs.Rooms.{slots_in, words_of}
use Rattle.ckrt_look_heap.specs.Recorded.{FillsRoom, fresh_for}
use Rattle.ckrt_look_heap.specs.Shadow.{Found, Heap, behind, ended, few, freed_as, given_back, head_of, if_told, is_begin, part_of, used_as, with_error, wrong}
use Rattle.ckrt_look_heap.specs.Steps.{has_ended, of_event, of_events}
use Rattle.ckrt_look_heap.specs.Within.{Noted, fresh_within, is_full, noted_all, noted_one, noted_with, room_by, room_by_free, room_for}
use Rattle.ckrt_look_heap.proofs.BehindLemmas.{behind_both}
use Rattle.ckrt_look_heap.proofs.SufficeLemmas.{behind_size}
use Rattle.ckrt_look_heap.proofs.WithinLemmas.{nothing_left_out}
use Rattle.ckrt_hunt_looks.specs.Errors.{CountsErrors, error_look, errors_by}
use Rattle.ckrt_hunt_looks.specs.Kinds.{error_kind}
use Rattle.ckrt_hunt_looks.specs.Looks.{IsBehind, noted_by}
use Rattle.ckrt_hunt_looks.specs.Rows.{rows_in, with_run}
use Rattle.ckrt_hunt_looks.specs.declared.rows.FoundRows.{FoundRows}

-- THE SIZES

either_keeps : {X : Type 0} (P : X → Type 0) (t : Bool) (x y : X) → P x → P y → P (if t then x else y)
either_keeps P true x y p q = p
either_keeps P false x y p q = q

used_whole : (a : Access) (o : Option Cell) (h : Heap) → (used_as a o h).is_whole ≡ h.is_whole
used_whole a None h = refl
used_whole a (Some c) h = refl

told_whole : (t : Bool) (a : Access) (c : Cell) (h : Heap) → (if_told t a c h).is_whole ≡ h.is_whole
told_whole t a c h = either_keeps (λ (g : Heap). g.is_whole ≡ h.is_whole) t (with_error a c h) h refl refl

freed_whole : (t : Bool) (a : Access) (c : Cell) (h : Heap) → (freed_as t a c h).is_whole ≡ h.is_whole
freed_whole t a cell.Unknown h = told_whole (t && h.is_whole) a cell.Unknown h
freed_whole t a cell.Unowned h = told_whole t a cell.Unowned h
freed_whole t a (cell.Given b) h =
    either_keeps (λ (g : Heap). g.is_whole ≡ h.is_whole) (is_begin a b) (given_back a.moment b h) (if_told t a (cell.Given b) h) refl (told_whole t a (cell.Given b) h)
freed_whole t a (cell.GivenBack b m) h = told_whole t a (cell.GivenBack b m) h
freed_whole t a (cell.Ended b m) h = told_whole t a (cell.Ended b m) h

behind_whole : (n : Note) (h : Heap) → (behind n h).is_whole ≡ h.is_whole
behind_whole (note.Use a) h = used_whole a (wrong a (slice_get h.cells (a.address / 4))) h
behind_whole (note.Give b) h = refl
behind_whole (note.GiveBack a t) h = freed_whole t a (get_or h.cells (head_of a) cell.Unknown) h
behind_whole (note.Disown p m) h = refl
behind_whole (note.End e) h = refl

taking_count : (part : ℕ) (r : Room) → (taking part r).count ≡ r.count
taking_count part r =
    either_keeps (λ (q : Room). q.count ≡ r.count) (nat_lt r.taken r.count) (record r { has = slice_set r.has part true; taken = r.taken + 1 }) (record r { is_full = true }) refl refl

split_count : (part : ℕ) (r : Room) → (split part r).count ≡ r.count
split_count part r = either_keeps (λ (q : Room). q.count ≡ r.count) (get_or r.has part false) r (taking part r) refl (taking_count part r)

at_count : (word : ℕ) (r : Room) → (split_at word r).count ≡ r.count
at_count word r = either_keeps (λ (q : Room). q.count ≡ r.count) (word % 1024 == 0) r (split (word / 1024) r) refl (split_count (word / 1024) r)

for_count : (n first : ℕ) (r : Room) → (split_for n first r).count ≡ r.count
for_count n first r =
    either_keeps (λ (q : Room). q.count ≡ r.count) (n == 0) r (split_at (first + n) (split_at first r)) refl (at_count (first + n) (split_at first r) ∙ at_count first r)

free_count : (a : Access) (c : Cell) (h : Heap) (r : Room) → (room_by_free a c h r).count ≡ r.count
free_count a cell.Unknown h r = refl
free_count a cell.Unowned h r = refl
free_count a (cell.Given b) h r = either_keeps (λ (q : Room). q.count ≡ r.count) (is_begin a b) (room_by (part_of b) h r) r (for_count (few (part_of b) h.cells) b.first r) refl
free_count a (cell.GivenBack b m) h r = refl
free_count a (cell.Ended b m) h r = refl

room_count : (n : Note) (h : Heap) (r : Room) → (room_for n h r).count ≡ r.count
room_count (note.Use a) h r = refl
room_count (note.Give b) h r = for_count (few (part_of b) h.cells) b.first r
room_count (note.GiveBack a t) h r = free_count a (get_or h.cells (head_of a) cell.Unknown) h r
room_count (note.Disown p m) h r = for_count (few p h.cells) p.first r
room_count (note.End e) h r = refl

-- what is so of the heap behind each note, and what is so of the room
one_keeps : (P : Noted → Type 0) (n : Note) (s : Noted) → P s → P (noted_with (room_for n s.heap s.room) n s.heap) → P (noted_one n s)
one_keeps P n s p q = either_keeps P (is_full s) s (noted_with (room_for n s.heap s.room) n s.heap) p q

whole_one : (n : Note) (s : Noted) → (noted_one n s).heap.is_whole ≡ s.heap.is_whole
whole_one n s =
    one_keeps (λ (x : Noted). x.heap.is_whole ≡ s.heap.is_whole) n s refl
    (either_keeps (λ (h : Heap). h.is_whole ≡ s.heap.is_whole) (room_for n s.heap s.room).is_full s.heap (behind n s.heap) refl (behind_whole n s.heap))

words_one : (n : Note) (s : Noted) → length (noted_one n s).heap.cells ≡ length s.heap.cells
words_one n s =
    one_keeps (λ (x : Noted). length x.heap.cells ≡ length s.heap.cells) n s refl
    (either_keeps (λ (h : Heap). length h.cells ≡ length s.heap.cells) (room_for n s.heap s.room).is_full s.heap (behind n s.heap) refl (behind_size n s.heap))

slots_one : (n : Note) (s : Noted) → (noted_one n s).room.count ≡ s.room.count
slots_one n s = one_keeps (λ (x : Noted). x.room.count ≡ s.room.count) n s refl (room_count n s.heap s.room)

-- of a run's events
noted_keep : {X : Type 0} (f : Noted → X) → ((n : Note) (s : Noted) → f (noted_one n s) ≡ f s) → (ns : List Note) (s : Noted) → f (noted_all ns s) ≡ f s
noted_keep f same [] s = refl
noted_keep f same (n ∷ ns) s = noted_keep f same ns (noted_one n s) ∙ same n s

run_keeps : {X : Type 0} (f : Noted → X) → ((n : Note) (s : Noted) → f (noted_one n s) ≡ f s) → (n : ℕ) (es : List Event) (s : State) (d : Noted) → f (noted_by error_look n es s d) ≡ f d
run_keeps f same n [] s d = refl
run_keeps f same n (e ∷ es) s d = run_keeps f same (n + 1) es (step e s).state (noted_all (of_event n e s) d) ∙ noted_keep f same (of_event n e s) d

-- THE NOTES OF A RUN'S EVENTS, up to their end

noted_end : (n : ℕ) (es : List Event) (s : State) (d : Noted) → noted_all (of_events n es s) d ≡ noted_one (note.End (has_ended (fold es s).state.tables.status)) (noted_by error_look n es s d)
noted_end n [] s d = refl
noted_end n (e ∷ es) s d =
    let t = (step e s).state in
    behind_both (of_event n e s) (of_events (n + 1) es t) d ∙ noted_end (n + 1) es t (noted_all (of_event n e s) d)

end_full : (e : Bool) (d : Noted) → is_full (noted_one (note.End e) d) ≡ is_full d
end_full e d = one_keeps (λ (x : Noted). is_full x ≡ is_full d) (note.End e) d refl refl

end_found : (e : Bool) (d : Noted) → (noted_one (note.End e) d).heap.found ≡ d.heap.found
end_found e d =
    one_keeps (λ (x : Noted). x.heap.found ≡ d.heap.found) (note.End e) d refl
    (either_keeps (λ (h : Heap). h.found ≡ d.heap.found) d.room.is_full d.heap (ended e d.heap) refl refl)

full_is : (room : ℕ) (es : List Event) (s : State) (d : Noted) → IsBehind error_look room es s d → is_full (noted_all (of_events 0 es s) (fresh_for room 0 s)) ≡ is_full d
full_is room es s d is =
    ap is_full (noted_end 0 es s (fresh_for room 0 s)) ∙ end_full (has_ended (fold es s).state.tables.status) (noted_by error_look 0 es s (fresh_for room 0 s))
    ∙ ap is_full (sym is)

-- its errors are those that `ckrt check` tells
pub counts : (room : ℕ) (es : List Event) (s : State) (d : Noted) (seed : ℕ) (old new : FoundRows Finding) → is_full d ≡ false → rows_in new ≡ with_run error_kind seed d.heap.found.rows d.heap.found.others (rows_in old) → IsBehind error_look room es s d → CountsErrors seed es s old new
counts room es s d seed old new left counted is =
    let all = noted_all (of_events 0 es s) (fresh_for room 0 s) in
    let found : d.heap.found ≡ errors_by es s =
    ap (λ (v : Noted). v.heap.found) is ∙ sym (end_found (has_ended (fold es s).state.tables.status) (noted_by error_look 0 es s (fresh_for room 0 s)))
    ∙ ap (λ (v : Noted). v.heap.found) (sym (noted_end 0 es s (fresh_for room 0 s)))
    ∙ ap (λ (h : Heap). h.found) (nothing_left_out (0 == 0) (words_of s) (slots_in room 57344 (words_of s)) (of_events 0 es s) (full_is room es s d is ∙ left)) in
    counted ∙ ap (λ (f : Found). with_run error_kind seed f.rows f.others (rows_in old)) found

-- or they fill the room
pub fills : (room : ℕ) (es : List Event) (s : State) (d : Noted) → is_full d ≡ true → IsBehind error_look room es s d → FillsRoom room 0 es s
fills room es s d full is = full_is room es s d is ∙ full

-- a shadow that is cleared is as new
pub forgotten : (room : ℕ) (es : List Event) (s : State) (d new : Noted) → new ≡ fresh_within d.heap.is_whole (length d.heap.cells) d.room.count → IsBehind error_look room es s d → new ≡ fresh_for room 0 s
forgotten room es s d new cleared is =
    let f = fresh_for room 0 s in
    let whole : d.heap.is_whole ≡ (0 == 0) = ap (λ (v : Noted). v.heap.is_whole) is ∙ run_keeps (λ (v : Noted). v.heap.is_whole) whole_one 0 es s f in
    let words : length d.heap.cells ≡ words_of s = ap (λ (v : Noted). length v.heap.cells) is ∙ run_keeps (λ (v : Noted). length v.heap.cells) words_one 0 es s f ∙ length-replicate (words_of s) cell.Unknown in
    let slots : d.room.count ≡ slots_in room 57344 (words_of s) = ap (λ (v : Noted). v.room.count) is ∙ run_keeps (λ (v : Noted). v.room.count) slots_one 0 es s f in
    cleared ∙ ap (λ w. fresh_within w (length d.heap.cells) d.room.count) whole ∙ ap (λ n. fresh_within (0 == 0) n d.room.count) words
    ∙ ap (λ n. fresh_within (0 == 0) (words_of s) n) slots
