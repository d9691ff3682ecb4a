-- The rows of threads keep states well-formed.
use Rattle.std.proofs.Common.{◌≡◌, ℕ, zero, suc, ◌+◌, ◌<◌, ◌%◌, ◌==◌, ◌||◌, nat_lt, not, Bool, true, false, cond, List, [], ◌∷◌, length, Option, Some, None, refl, arith, slice_get}
use Rattle.std.proofs.lemmas.Bool.Decides.{nat_tests}
use Rattle.ckrt_thread.specs.declared.records.Thread.{Thread}
use Rattle.ckrt_thread.specs.declared.records.Thread.TheVariants as thread
use Rattle.ckrt_thread.specs.declared.records.Live.{Live}
use Rattle.ckrt_thread.specs.declared.records.Reason.TheVariants as reason
use Rattle.ckrt_thread.specs.Abi.{A1}
use Rattle.ckrt_thread.specs.State.{State, IsWellFormed, thread_of, is_live, is_waiting, is_joined, free_place, is_proper_slot, with_slot, may_join}
use Rattle.ckrt_thread.specs.Rows.{After, new_thread, create_at, create_row, join_at, join_row, detach_at, detach_row}
use Rattle.ckrt_thread.proofs.KeyLemmas.{no_value}
use Rattle.ckrt_thread.proofs.Changes.{well_formed_blocked, well_formed_word, well_formed_slot, may_stand_free, well_formed_detached}
use Rattle.ckrt_thread.proofs.Known.{thread_range, absent_places, absent_joiners, ended_live, not_joined, free_places, free_joiners}
use Rattle.ckrt_thread.proofs.SlotLemmas.{free_slot_none}

abbrev IsKept : After → Type 0
IsKept r = IsWellFormed r.threads

-- either way of a choice
choice : (b : Bool) (x y : After) → (b ≡ true → IsKept x) → (b ≡ false → IsKept y) → IsKept (cond b x y)
choice true x y p q = p refl
choice false x y p q = q refl

-- an item that was found lies in the list
some_below : {X : Type 0} (xs : List X) (i : ℕ) (x : X) → slice_get xs i ≡ Some x → i < length xs
some_below [] i x e = absurd (cc)
some_below (y ∷ xs) zero x e = omega arith
some_below (y ∷ xs) (suc i) x e = (let r = some_below xs i x e in omega (arith, r))

module _ (by : ℕ) (s : State) (h : IsWellFormed s) where
  -- CREATE

  new_proper : (start arg sp : ℕ) (d : Bool) → not (start % 4 == 0) ≡ false → is_proper_slot (Some (new_thread start arg sp d)) ≡ true
  new_proper start arg sp d a = grind (arith, nat_tests, a)

  create_kept : (o : Option ℕ) (start arg sp : ℕ) (d : Bool) → free_place s ≡ o → not (start % 4 == 0) ≡ false → IsKept (create_at o by start arg sp d s)
  create_kept None start arg sp d e a = h
  create_kept (Some i) start arg sp d e a =
      let y : Option Thread = Some (new_thread start arg sp d) in
      let b = some_below s.threads (i + 1) None (free_slot_none s.threads i e) in
      let n = h.size in
      let f = rw e at (free_places s h) in
      let j = rw e at (free_joiners s h) in
      well_formed_word (with_slot (i + 1) y s) by A1 (i + 1)
      (well_formed_slot s (i + 1) y h (omega arith) (omega (arith, b, n)) (may_stand_free s (i + 1) y f j (λ q x _. absurd (cc)) (new_proper start arg sp d a) (λ k _. no_value k)))

  or_false_left : (b c : Bool) → (b || c) ≡ false → b ≡ false
  or_false_left true c e = absurd (cc)
  or_false_left false c e = refl

  pub well_formed_create : (start arg sp d : ℕ) → IsKept (create_row by start arg sp d s)
  well_formed_create start arg sp d =
      choice (not (start % 4 == 0) || nat_lt 1 d) _ _ (λ _. h)
      (λ e. create_kept (free_place s) start arg sp (d == 1) refl (or_false_left (not (start % 4 == 0)) (nat_lt 1 d) e))

  -- an ended thread's id is free
  freed : (id v : ℕ) → thread_of s id ≡ Some (thread.Ended v) → IsWellFormed (with_slot id None s)
  freed id v e =
      let r = thread_range s id (thread.Ended v) h e in
      let l = ended_live s id v e in
      well_formed_slot s id None h r.0 r.1 (may_stand_free s id None (absent_places s id h l) (absent_joiners s id h l) (λ q x _. absurd (cc)) refl (λ k _. no_value k))

  -- JOIN

  may_join_live : (id : ℕ) (l : Live) → thread_of s id ≡ Some (thread.Live l) → (l.detached || is_joined id s) ≡ false → (id == by) ≡ false → may_join by (reason.Join id) s ≡ true
  may_join_live id l e f n = rw e (grind (arith, nat_tests, f, n))

  join_kept : (o : Option Thread) (id : ℕ) → thread_of s id ≡ o → (id == by) ≡ false → is_live s by ≡ true → is_waiting s by ≡ false → IsKept (join_at o by id s)
  join_kept None id e n l w = h
  join_kept (Some (thread.Ended v)) id e n l w = well_formed_word (with_slot id None s) by A1 v (freed id v e)
  join_kept (Some (thread.Live x)) id e n l w =
      choice (x.detached || is_joined id s) _ _ (λ _. h)
      (λ f. well_formed_blocked s by (reason.Join id) None h l w (let m = may_join_live id x e f n in grind (arith, nat_tests, m)))

  pub well_formed_join : (id : ℕ) → is_live s by ≡ true → is_waiting s by ≡ false → IsKept (join_row by id s)
  well_formed_join id l w = choice (id == by) _ _ (λ _. h) (λ n. join_kept (thread_of s id) id refl n l w)

-- DETACH

module _ (s : State) (h : IsWellFormed s) where
  live_of : (id : ℕ) (x : Live) → thread_of s id ≡ Some (thread.Live x) → is_live s id ≡ true
  live_of id x e = rw e refl

  not_or : (b c : Bool) → (b || c) ≡ false → c ≡ false
  not_or true c e = absurd (cc)
  not_or false c e = e

  detach_kept : (o : Option Thread) (id : ℕ) → thread_of s id ≡ o → IsKept (detach_at o id s)
  detach_kept None id e = h
  detach_kept (Some (thread.Ended v)) id e = freed 0 s h id v e
  detach_kept (Some (thread.Live x)) id e =
      choice (x.detached || is_joined id s) _ _ (λ _. h) (λ f. well_formed_detached s id h (live_of id x e) (not_joined s id (not_or x.detached (is_joined id s) f)))

  pub well_formed_detach : (id : ℕ) → IsKept (detach_row id s)
  well_formed_detach id = detach_kept (thread_of s id) id refl
