-- Unwinding: the end of a thread, and the way to it over its handlers.
use Rattle.std.proofs.Common.{◌≡◌, ℕ, Bool, true, false, cond, eqb, List, Option, Some, None, IfSome, refl, ap, ◌∙◌}
use Rattle.ckrt_thread.specs.declared.records.Thread.{Thread}
use Rattle.ckrt_thread.specs.declared.records.Thread.TheVariants as thread
use Rattle.ckrt_thread.specs.declared.records.Live.{Live}
use Rattle.ckrt_thread.specs.declared.records.Wait.{Wait}
use Rattle.ckrt_thread.specs.declared.records.Handler.{Handler}
use Rattle.ckrt_thread.specs.declared.records.Object.TheVariants as object
use Rattle.ckrt_thread.specs.Abi.{A0, A1, UNWIND_GATE}
use Rattle.ckrt_thread.specs.Waits.{without}
use Rattle.ckrt_thread.specs.Cancellation.{is_aligned_handler, unwinding_value, popping, entering, handlers_of, newest}
use Rattle.ckrt_thread.specs.State.{State, IsWellFormed, thread_of, is_live, is_live_thread, is_waiting, is_detached, is_initial, is_proper_slot, first_waiter, change_thread, with_slot, with_word, set_word, off_hart, unwaited, woken}
use Rattle.ckrt_thread.specs.Rows.{end_with, finished}
use Rattle.ckrt_thread.specs.declared.keys.Turn.{Turn}
use Rattle.ckrt_thread.specs.Keys.{KeyTable, HasValuesOf}
use Rattle.ckrt_thread.specs.Destructors.{at_destructor}
use Rattle.ckrt_thread.specs.Unwinding.{newest_handler, turn_of, destroyed_by, next_destructor, handled_by, next_handler, popped}
use Rattle.ckrt_thread.specs.Granting.{answered, obtained, wait_result}
use Rattle.ckrt_thread.proofs.Changes.{well_formed_off, well_formed_without, well_formed_word, well_formed_change, well_formed_slot, may_stand_free, changes_popping, changes_entering, aligned_newest}
use Rattle.ckrt_thread.proofs.KeyLemmas.{no_value}
use Rattle.ckrt_thread.proofs.KeysKept.{well_formed_destroyed}
use Rattle.ckrt_thread.proofs.Known.{live_range, waiting_live, waits_at_most_once, off_places, off_woken_places, unjoined, woken_joiner}
use Rattle.ckrt_thread.proofs.SlotLemmas.{kept_at, live_change, slot_elsewhere}
use Rattle.ckrt_thread.proofs.WaitLemmas.{gone}

-- THE WAITS are the same, or those without the wait of who joins the thread

end_waits : (f : List Wait → Type 0) (o : Option Wait) (t v : ℕ) (s : State) → f s.waits → ((w : Wait) → o ≡ Some w → f (without w.thread s.waits)) → f (end_with o t v s).waits
end_waits f None t v s a b = elim (is_detached (thread_of s t)) as (λ (c : Bool). f (cond c (with_slot t None s) (with_slot t (Some (thread.Ended v)) s)).waits) [
  | true ↦ a
  | false ↦ a
]
end_waits f (Some w) t v s a b = b w refl

pub waits_finished : (f : List Wait → Type 0) (t v : ℕ) (s : State) → f s.waits → ((w : Wait) → first_waiter (object.End t) s ≡ Some w → f (without w.thread s.waits)) → f (finished t v s).waits
waits_finished f t v s a b = end_waits f (first_waiter (object.End t) s) t v (off_hart t s) a b

-- WHAT EACH CHANGE OF A THREAD AND ITS END KEEP, its next handler keeps

module _ (P : State → Type 0) (t : ℕ) where
  destroyed_ways : (o : Option Turn) (s : State) → ((f : Live → Live) (z : State) → P z → P (record z { threads = change_thread f t z.threads })) → ((v : ℕ) → P s → P (finished t v s)) → P s → P (destroyed_by o t s)
  destroyed_ways None s c e h = e (unwinding_value (thread_of s t)) h
  destroyed_ways (Some turn) s c e h = c (at_destructor s.keys turn) s h

  handled_ways : (o : Option Handler) (s : State) → ((f : Live → Live) (z : State) → P z → P (record z { threads = change_thread f t z.threads })) → ((v : ℕ) → P s → P (finished t v s)) → P s → P (handled_by o t s)
  handled_ways None s c e h = destroyed_ways (turn_of t s) s c e h
  handled_ways (Some n) s c e h = c (entering UNWIND_GATE n) (popped (Some n) t s) (c popping s h)

  pub next_ways : (s : State) → ((f : Live → Live) (z : State) → P z → P (record z { threads = change_thread f t z.threads })) → ((v : ℕ) → P s → P (finished t v s)) → P s → P (next_handler t s)
  next_ways s c e h = handled_ways (newest_handler t s) s c e h

  pub answered_ways : (o : Option ℕ) (s : State) → ((f : Live → Live) (z : State) → P z → P (record z { threads = change_thread f t z.threads })) → ((v : ℕ) → P s → P (finished t v s)) → P s → P (answered o t s)
  answered_ways (Some v) s c e h = c (with_word A0 v) s h
  answered_ways None s c e h = next_ways s c e h

pub waits_answered : (f : List Wait → Type 0) (o : Option ℕ) (t : ℕ) (s : State) → f s.waits → ((w : Wait) → first_waiter (object.End t) s ≡ Some w → f (without w.thread s.waits)) → f (answered o t s).waits
waits_answered f o t s a b = answered_ways (λ z. f z.waits) t o s (λ g z h. h) (λ v h. waits_finished f t v s h b) a

-- OTHERS LIVE ON

live_changed : (q t : ℕ) (f : Live → Live) (s : State) → is_live s q ≡ true → is_live (record s { threads = change_thread f t s.threads }) q ≡ true
live_changed q t f s h = kept_at is_live_thread f s.threads t q (live_change f) ∙ h

live_elsewhere : (q t : ℕ) (y : Option Thread) (s : State) → eqb t q ≡ false → is_live s q ≡ true → is_live (with_slot t y s) q ≡ true
live_elsewhere q t y s n h = ap is_live_thread (slot_elsewhere s.threads t q y n) ∙ h

live_end : (q : ℕ) (o : Option Wait) (t v : ℕ) (s : State) → eqb t q ≡ false → is_live s q ≡ true → is_live (end_with o t v s) q ≡ true
live_end q None t v s n h = elim (is_detached (thread_of s t)) as (λ (c : Bool). is_live (cond c (with_slot t None s) (with_slot t (Some (thread.Ended v)) s)) q ≡ true) [
  | true ↦ live_elsewhere q t None s n h
  | false ↦ live_elsewhere q t (Some (thread.Ended v)) s n h
]
live_end q (Some w) t v s n h =
    live_elsewhere q t None (set_word w.thread A1 v (woken w.thread 0 s)) n
    (live_changed q w.thread (with_word A1 v) (woken w.thread 0 s) (live_changed q w.thread (with_word A0 0) (unwaited w.thread s) h))

pub live_finished : (q t v : ℕ) (s : State) → eqb t q ≡ false → is_live s q ≡ true → is_live (finished t v s) q ≡ true
live_finished q t v s n h = live_end q (first_waiter (object.End t) s) t v (off_hart t s) n h

pub live_answered : (q : ℕ) (o : Option ℕ) (t : ℕ) (s : State) → eqb t q ≡ false → is_live s q ≡ true → is_live (answered o t s) q ≡ true
live_answered q o t s n h = answered_ways (λ z. is_live z q ≡ true) t o s (λ f z k. live_changed q t f z k) (λ v k. live_finished q t v s n k) h

pub live_next : (q t : ℕ) (s : State) → eqb t q ≡ false → is_live s q ≡ true → is_live (next_handler t s) q ≡ true
live_next q t s n h = live_answered q None t s n h

-- WELL-FORMED STATES

-- who has ended has no value
ended_values : (keys : KeyTable) (y : Option Thread) → is_live_thread y ≡ false → HasValuesOf keys y
ended_values keys None d = λ k _. no_value k
ended_values keys (Some (thread.Ended v)) d = λ k _. no_value k
ended_values keys (Some (thread.Live l)) d = absurd (cc)

module _ (t v : ℕ) (s : State) (h : IsWellFormed s) (l : is_live s t ≡ true) (n : is_waiting s t ≡ false) where
  -- an id at which nothing is left becomes free, or has a value
  end_free : (y : Option Thread) → first_waiter (object.End t) s ≡ None → is_live_thread y ≡ false → is_proper_slot y ≡ true → (is_initial y ≡ true → is_initial (thread_of s t) ≡ true) → IsWellFormed (with_slot t y (off_hart t s))
  end_free y e d p i = (let r = live_range s t h l in
      well_formed_slot (off_hart t s) t y (well_formed_off s t h) r.0 r.1 (may_stand_free (off_hart t s) t y (off_places s t n) (unjoined (off_hart t s) t e) (λ q x z. h.one_initial t q (i x) z) p (ended_values s.keys y d)))

  end_joined : (w : Wait) → first_waiter (object.End t) s ≡ Some w → IsWellFormed (with_slot t None (set_word w.thread A1 v (woken w.thread 0 (off_hart t s))))
  end_joined w e =
      let z = off_hart t s in
      let kz = well_formed_off s t h in
      let r = live_range s t h l in
      let woke = well_formed_word (unwaited w.thread z) w.thread A0 0 (well_formed_without z w.thread kz) in
      let told = well_formed_word (woken w.thread 0 z) w.thread A1 v woke in
      well_formed_slot (set_word w.thread A1 v (woken w.thread 0 z)) t None told r.0 r.1
      (may_stand_free (set_word w.thread A1 v (woken w.thread 0 z)) t None (off_woken_places s t w.thread 0 A1 v n) (woken_joiner z t 0 A1 v w kz e) (λ q x _. absurd (cc)) refl (λ k _. no_value k))

  well_formed_end : (o : Option Wait) → first_waiter (object.End t) s ≡ o → IsWellFormed (end_with o t v (off_hart t s))
  well_formed_end None e = elim (is_detached (thread_of (off_hart t s) t)) as (λ (c : Bool). IsWellFormed (cond c (with_slot t None (off_hart t s)) (with_slot t (Some (thread.Ended v)) (off_hart t s)))) [
    | true ↦ end_free None e refl refl (λ x. absurd (cc))
    | false ↦ end_free (Some (thread.Ended v)) e refl refl (λ x. absurd (cc))
  ]
  well_formed_end (Some w) e = end_joined w e

  pub well_formed_finished : IsWellFormed (finished t v s)
  well_formed_finished = well_formed_end (first_waiter (object.End t) s) refl

proper_handlers : (o : Option Thread) → is_proper_slot o ≡ true → IfSome (newest (handlers_of o)) (λ n. is_aligned_handler n ≡ true)
proper_handlers None p = tt
proper_handlers (Some (thread.Ended v)) p = tt
proper_handlers (Some (thread.Live l)) p = aligned_newest l p

module _ (t : ℕ) (s : State) (h : IsWellFormed s) (l : is_live s t ≡ true) (n : is_waiting s t ≡ false) where
  well_formed_destroyer : (o : Option Turn) → turn_of t s ≡ o → IsWellFormed (destroyed_by o t s)
  well_formed_destroyer None e = well_formed_finished t (unwinding_value (thread_of s t)) s h l n
  well_formed_destroyer (Some turn) e = well_formed_destroyed s t turn h l e

  pub well_formed_destructor : IsWellFormed (next_destructor t s)
  well_formed_destructor = well_formed_destroyer (turn_of t s) refl

  well_formed_handled : (o : Option Handler) → newest_handler t s ≡ o → IfSome o (λ n. is_aligned_handler n ≡ true) → IsWellFormed (handled_by o t s)
  well_formed_handled None e a = well_formed_destroyer (turn_of t s) refl
  well_formed_handled (Some x) e a =
      well_formed_change (popped (Some x) t s) (entering UNWIND_GATE x) t (changes_entering UNWIND_GATE x a) (well_formed_change s popping t changes_popping h)

  pub well_formed_next : IsWellFormed (next_handler t s)
  well_formed_next = well_formed_handled (newest_handler t s) refl (proper_handlers (thread_of s t) (h.proper t))

  pub well_formed_answered : (o : Option ℕ) → IsWellFormed (answered o t s)
  well_formed_answered (Some v) = well_formed_word s t A0 v h
  well_formed_answered None = well_formed_next

pub well_formed_obtained : (w : Wait) (s : State) → IsWellFormed s → is_waiting s w.thread ≡ true → IsWellFormed (obtained w s)
well_formed_obtained w s h y =
    well_formed_answered w.thread (unwaited w.thread s) (well_formed_without s w.thread h) (waiting_live s w.thread h y) (gone w.thread s.waits (waits_at_most_once s w.thread h)) (wait_result w.reason)
