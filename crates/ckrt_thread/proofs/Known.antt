-- What follows from well-formedness.
use Rattle.std.proofs.Common.{◌≡◌, ℕ, List, [], zero, suc, ◌+◌, ◌≤◌, ◌<◌, Bool, true, false, eqb, ◌∷◌, length, Option, Some, None, refl, sym, ap, arith, slice_get, IfSome, is_none, drop}
use Rattle.std.specs.List.{list_any, IsDistinct, find, position}
use Rattle.std.specs.Option.{option_flatten}
use Rattle.std.proofs.lemmas.List.{length-map}
use Rattle.std.proofs.lemmas.Bool.Decides.{nat_tests}
use Rattle.std.proofs.lemmas.Map.Steps.{length-le_from_distinct_below}
use Rattle.ckrt_thread.specs.declared.records.Thread.{Thread}
use Rattle.ckrt_thread.specs.declared.records.Thread.TheVariants as thread
use Rattle.ckrt_thread.specs.declared.records.Wait.{Wait}
use Rattle.ckrt_thread.specs.declared.records.Object.TheVariants as object
use Rattle.ckrt_thread.specs.Waits.{is_of, is_for}
use Rattle.ckrt_thread.specs.State.{State, IsWellFormed, thread_of, is_live, is_live_thread, is_waiting, is_ready, is_joined, holds, count_of, places, joiners, off_hart, woken, set_word, first_waiter, free_place}
use Rattle.ckrt_thread.specs.Queues.{ids}
use Rattle.ckrt_thread.proofs.QueueLemmas.{ids_any}
use Rattle.ckrt_thread.proofs.Counting.{count_of_none, count_of_some, none_of_count}
use Rattle.ckrt_thread.proofs.WaitLemmas.{apart, ids_distinct, found_waits, count_of-find, count_of-without, count_of-without_found}
use Rattle.ckrt_thread.proofs.SlotLemmas.{live_below, free_slot_none}
use Rattle.ckrt_thread.proofs.HartLemmas.{count_of-off, held_at}

-- the id of a thread
some_slot : {X : Type 0} (xs : List (Option X)) (i : ℕ) (x : X) → option_flatten (slice_get xs i) ≡ Some x → i < length xs
some_slot [] i x e = absurd (cc)
some_slot (y ∷ xs) zero x e = omega arith
some_slot (y ∷ xs) (suc i) x e = (let r = some_slot xs i x e in omega (arith, r))

pub thread_range : (s : State) (t : ℕ) (x : Thread) → IsWellFormed s → thread_of s t ≡ Some x → (0 < t) × (t ≤ 64)
thread_range s zero x h e = absurd (let z = h.zero in cc)
thread_range s (suc t) x h e = (omega arith, let b = some_slot s.threads (suc t) x e in let n = h.size in omega (arith, b, n))

-- the number of a thread that has not ended
pub live_range : (s : State) (t : ℕ) → IsWellFormed s → is_live s t ≡ true → (0 < t) × (t ≤ 64)
live_range s zero h l = absurd (let z = h.zero in cc)
live_range s (suc t) h l = (omega arith, let b = live_below s.threads (suc t) l in let n = h.size in omega arith)

pub live_index : (s : State) (t : ℕ) → IsWellFormed s → is_live s t ≡ true → t < 65
live_index s t h l = (let r = live_range s t h l in omega (arith, r.1))

-- who waits is in the table, and has not ended
pub waiting_live : (s : State) (t : ℕ) → IsWellFormed s → is_waiting s t ≡ true → is_live s t ≡ true
waiting_live s t h w = grind (arith, nat_tests, h.placed t, count_of_some (is_of t) s.waits w)

pub waiting_range : (s : State) (t : ℕ) → IsWellFormed s → is_waiting s t ≡ true → (0 < t) × (t ≤ 64)
waiting_range s t h w = live_range s t h (waiting_live s t h w)

pub waiting_index : (s : State) (t : ℕ) → IsWellFormed s → is_waiting s t ≡ true → t < 65
waiting_index s t h w = live_index s t h (waiting_live s t h w)

-- nobody waits twice
pub waits_at_most_once : (s : State) (t : ℕ) → IsWellFormed s → count_of (is_of t) s.waits ≤ 1
waits_at_most_once s t h = grind (arith, nat_tests, h.placed t)

-- who has the first of some waits is a thread
pub found_range : (s : State) (p : Wait → Bool) → IsWellFormed s → IfSome (find p s.waits) (λ w. (0 < w.thread) × (w.thread ≤ 64))
found_range s p h =
    elim (find p s.waits) as (λ o. find p s.waits ≡ o → IfSome o (λ w. (0 < w.thread) × (w.thread ≤ 64))) [
      | None ↦ λ e. tt
      | Some w ↦ λ e. waiting_range s w.thread h (found_waits p s.waits w e)
    ] refl

-- who has not ended and does not wait has a place in the list of waits

below_65 : (s : State) (t q : ℕ) → IsWellFormed s → t < 65 → list_any (eqb q) (0 ∷ t ∷ ids s.waits) ≡ true → q < 65
below_65 s t q h l e =
    let f : is_waiting s q ≡ true → q < 65 = waiting_index s q h in
    grind (arith, nat_tests, ids_any q s.waits, f)

pub waits_room : (s : State) (t : ℕ) → IsWellFormed s → is_live s t ≡ true → is_waiting s t ≡ false → length s.waits < 64
unfolding IsDistinct
waits_room s t h l w =
    let none : is_waiting s 0 ≡ false = none_of_count (is_of 0) s.waits (let z = h.zero in grind (arith, nat_tests, h.placed 0)) in
    let in_range = live_range s t h l in
    let ne : eqb 0 t ≡ false = grind (arith, nat_tests, in_range) in
    let distinct : IsDistinct eqb (0 ∷ t ∷ ids s.waits) = ((ne, apart 0 s.waits none), (apart t s.waits w, ids_distinct s.waits (λ q. grind (arith, nat_tests, h.placed q)))) in
    let below : length (0 ∷ t ∷ ids s.waits) ≤ 65 = length-le_from_distinct_below (0 ∷ t ∷ ids s.waits) 65 distinct (λ q e. below_65 s t q h (live_index s t h l) e) in
    omega (arith, below, length-map s.waits (λ w. w.thread))

-- who is on a hart has not ended, and does not wait
on_hart_ready : (s : State) (h t : ℕ) → IsWellFormed s → option_flatten (slice_get s.harts h) ≡ Some t → (is_live s t ≡ true) × (is_waiting s t ≡ false)
on_hart_ready s h t k e =
    let i = held_at s.harts h t e in
    (grind (arith, nat_tests, k.placed t, i), none_of_count (is_of t) s.waits (grind (arith, nat_tests, k.placed t, i)))

pub if_on_hart : (s : State) (h : ℕ) (o : Option ℕ) → o ≡ option_flatten (slice_get s.harts h) → IsWellFormed s → IfSome o (λ t. (is_live s t ≡ true) × (is_waiting s t ≡ false))
if_on_hart s h None e k = tt
if_on_hart s h (Some t) e k = on_hart_ready s h t k (sym e)

pub ready_live : (s : State) (t : ℕ) → is_ready s t ≡ true → is_live s t ≡ true
ready_live s t r = grind (arith, nat_tests)

pub ready_places : (s : State) (t : ℕ) → is_ready s t ≡ true → places s t ≡ 0
ready_places s t r = grind (arith, nat_tests, count_of_none (is_of t) s.waits, count_of_none (holds t) s.harts)

-- where there is no thread that has not ended, nothing is at a place, and nobody joins it

pub absent_places : (s : State) (t : ℕ) → IsWellFormed s → is_live s t ≡ false → places s t ≡ 0
absent_places s t h l = grind (arith, nat_tests, h.placed t)

pub absent_joiners : (s : State) (t : ℕ) → IsWellFormed s → is_live s t ≡ false → joiners s t ≡ 0
absent_joiners s t h l = grind (arith, nat_tests, h.joined_target t)

pub ended_live : (s : State) (t v : ℕ) → thread_of s t ≡ Some (thread.Ended v) → is_live s t ≡ false
ended_live s t v e = ap is_live_thread e

-- who ends

pub off_places : (s : State) (t : ℕ) → is_waiting s t ≡ false → places (off_hart t s) t ≡ 0
off_places s t w = grind (arith, nat_tests, count_of-off t t s.harts, count_of_none (is_of t) s.waits w)

pub off_woken_places : (s : State) (t u v k n : ℕ) → is_waiting s t ≡ false → places (set_word u k n (woken u v (off_hart t s))) t ≡ 0
off_woken_places s t u v k n w = grind (arith, nat_tests, count_of-off t t s.harts, count_of_none (is_of t) s.waits w, count_of-without (is_of t) u s.waits)

none_find : (t : ℕ) (s : State) → is_joined t s ≡ false → first_waiter (object.End t) s ≡ None
none_find t s h =
    elim (first_waiter (object.End t) s) as (λ o. first_waiter (object.End t) s ≡ o → first_waiter (object.End t) s ≡ None) [
      | None ↦ λ e. e
      | Some w ↦ λ e. absurd (cc)
    ] refl

pub unjoined : (s : State) (t : ℕ) → first_waiter (object.End t) s ≡ None → joiners s t ≡ 0
unjoined s t e = count_of-find (is_for (object.End t)) s.waits e

pub not_joined : (s : State) (t : ℕ) → is_joined t s ≡ false → joiners s t ≡ 0
not_joined s t h = unjoined s t (none_find t s h)

-- the one who joins a thread is woken
pub woken_joiner : (s : State) (t v k n : ℕ) (w : Wait) → IsWellFormed s → first_waiter (object.End t) s ≡ Some w → joiners (set_word w.thread k n (woken w.thread v s)) t ≡ 0
woken_joiner s t v k n w h e =
    grind (arith, nat_tests, h.joined_target t, h.placed w.thread, count_of-without_found (is_for (object.End t)) s.waits w e)

-- the least free id

free_thread : (s : State) (i : ℕ) → position is_none (drop 1 s.threads) ≡ Some i → is_live s (i + 1) ≡ false
free_thread s i e = ap (λ o. is_live_thread (option_flatten o)) (free_slot_none s.threads i e)

pub free_places : (s : State) → IsWellFormed s → IfSome (free_place s) (λ i. places s (i + 1) ≡ 0)
free_places s h =
    elim (free_place s) as (λ o. free_place s ≡ o → IfSome o (λ i. places s (i + 1) ≡ 0)) [
      | None ↦ λ e. tt
      | Some i ↦ λ e. absent_places s (i + 1) h (free_thread s i e)
    ] refl

pub free_joiners : (s : State) → IsWellFormed s → IfSome (free_place s) (λ i. joiners s (i + 1) ≡ 0)
free_joiners s h =
    elim (free_place s) as (λ o. free_place s ≡ o → IfSome o (λ i. joiners s (i + 1) ≡ 0)) [
      | None ↦ λ e. tt
      | Some i ↦ λ e. absent_joiners s (i + 1) h (free_thread s i e)
    ] refl
