-- Changes of keys and values, and destructors, keep states well-formed.
use Rattle.std.proofs.Common.{◌≡◌, ℕ, zero, suc, ◌%◌, ◌≤◌, Bool, true, false, if◌then◌else◌, eqb, eqb-true, cond, List, [], ◌∷◌, map, Option, Some, None, is_some, refl, sym, ap, subst, ◌∙◌, arith, slice_get, slice_set, get_or}
use Rattle.std.specs.List.{list_all}
use Rattle.std.specs.Option.{option_flatten}
use Rattle.std.proofs.lemmas.Bool.Decides.{nat_tests}
use Rattle.std.proofs.lemmas.List.{length-map, length-set, get_or-set_other}
use Rattle.ckrt_thread.specs.declared.keys.Turn.{Turn}
use Rattle.ckrt_thread.specs.declared.records.Live.{Live}
use Rattle.ckrt_thread.specs.declared.records.Thread.{Thread}
use Rattle.ckrt_thread.specs.declared.records.Thread.TheVariants as thread
use Rattle.ckrt_thread.specs.Cancellation.{is_unwinding}
use Rattle.ckrt_thread.specs.Keys.{KeyTable, is_key, with_key, are_proper_keys, are_of_keys, data_of, HasValuesOf, setting, value_under}
use Rattle.ckrt_thread.specs.Destructors.{next_turn, at_destructor}
use Rattle.ckrt_thread.specs.Unwinding.{turn_of}
use Rattle.ckrt_thread.specs.State.{State, IsWellFormed, thread_of, is_live, is_live_thread, is_initial, is_joinable, is_proper_live, is_proper_slot, places, joiners, unwind_waits, change_live, change_thread}
use Rattle.ckrt_thread.specs.Contents.{with_keys, has_values_of, are_all_of_keys}
use Rattle.ckrt_thread.specs.ThreadKeys.{with_key_of, without_key_of, with_value_of}
use Rattle.ckrt_thread.proofs.SlotLemmas.{slot_elsewhere, live_change}
use Rattle.ckrt_thread.proofs.KeyLemmas.{both, proper_added, proper_removed, aligned_destructor, zero_under, zero_set, no_value, values_of_keys, of_keys, few_rounds, next_within, IsTurn, is_turn}
use Rattle.ckrt_thread.proofs.Changes.{IsChange, proper_change, initial_change, joinable_change, unwinds_on, same_unwinding, may_stand_joinable, well_formed_live}

-- A NUMBER IS A KEY

-- what was a key is one still
still_key : (keys : KeyTable) (k d i : ℕ) → is_key (with_key k (Some d) keys) i ≡ false → is_key keys i ≡ false
still_key keys k d i e = (let at = slot_elsewhere keys.destructors k i (Some d) in still (eqb k i) refl at) where
  still : (b : Bool) → eqb k i ≡ b → (eqb k i ≡ false → option_flatten (slice_get (slice_set keys.destructors k (Some d)) i) ≡ option_flatten (slice_get keys.destructors i)) → is_key keys i ≡ false
  still true s at = added keys.destructors k i (eqb-true k i s) e where
    added : (ds : List (Option ℕ)) (k i : ℕ) → k ≡ i → is_some (option_flatten (slice_get (slice_set ds k (Some d)) i)) ≡ false → is_some (option_flatten (slice_get ds i)) ≡ false
    added [] k i s e = e
    added (x ∷ ds) zero zero s e = absurd (cc)
    added (x ∷ ds) zero (suc i) s e = absurd (omega (arith, s))
    added (x ∷ ds) (suc k) zero s e = absurd (omega (arith, s))
    added (x ∷ ds) (suc k) (suc i) s e = added ds k i (omega (arith, s)) e
  still false s at = sym (ap is_some (at s)) ∙ e

pub well_formed_key : (s : State) (k d : ℕ) → IsWellFormed s → s.keys.is_on ≡ true → d % 4 ≡ 0 → IsWellFormed (with_key_of k d s)
well_formed_key s k d h on a = record {
  size = h.size;
  zero = h.zero;
  harts = h.harts;
  hart_count = h.hart_count;
  idle = h.idle;
  proper = h.proper;
  one_initial = h.one_initial;
  placed = h.placed;
  joined_target = h.joined_target;
  joined_by_another = h.joined_by_another;
  deadlines = h.deadlines;
  unwinding_waits = h.unwinding_waits;
  proper_keys = proper_added s.keys k d h.proper_keys on a;
  values = λ t i e. h.values t i (still_key s.keys k d i e);
}

-- THE KEYS BECOME OTHERS

slot_values : (keys : KeyTable) (ts : List (Option Thread)) (t : ℕ) → list_all (has_values_of keys) ts ≡ true → are_of_keys keys (data_of (option_flatten (slice_get ts t))) ≡ true
slot_values keys [] t h = of_keys keys None (λ k _. no_value k)
slot_values keys (x ∷ ts) zero h = (both (has_values_of keys x) (list_all (has_values_of keys) ts) h).0
slot_values keys (x ∷ ts) (suc t) h = slot_values keys ts t (both (has_values_of keys x) (list_all (has_values_of keys) ts) h).1

pub well_formed_keys : (s : State) (keys : KeyTable) → IsWellFormed s → are_proper_keys keys ≡ true → are_all_of_keys keys s ≡ true → IsWellFormed (with_keys keys s)
well_formed_keys s keys h p a = record {
  size = h.size;
  zero = h.zero;
  harts = h.harts;
  hart_count = h.hart_count;
  idle = h.idle;
  proper = h.proper;
  one_initial = h.one_initial;
  placed = h.placed;
  joined_target = h.joined_target;
  joined_by_another = h.joined_by_another;
  deadlines = h.deadlines;
  unwinding_waits = h.unwinding_waits;
  proper_keys = p;
  values = λ t. values_of_keys keys (thread_of s t) (h.proper t) (slot_values keys s.threads t a);
}

-- ALL THREADS CHANGE

pub mapped_at : (f : Live → Live) (ts : List (Option Thread)) (t : ℕ) → option_flatten (slice_get (map (change_live f) ts) t) ≡ change_live f (option_flatten (slice_get ts t))
mapped_at f [] t = refl
mapped_at f (x ∷ ts) zero = refl
mapped_at f (x ∷ ts) (suc t) = mapped_at f ts t

well_formed_all : (s : State) (f : Live → Live) (keys : KeyTable) → IsChange f → IsWellFormed s → are_proper_keys keys ≡ true
    → ((o : Option Thread) → HasValuesOf s.keys o → HasValuesOf keys (change_live f o)) → IsWellFormed (record s { threads = map (change_live f) s.threads; keys = keys })
well_formed_all s f keys k h p v =
    let at : (q : ℕ) → option_flatten (slice_get (map (change_live f) s.threads) q) ≡ change_live f (thread_of s q) = mapped_at f s.threads in
    let initial : (q : ℕ) → is_initial (option_flatten (slice_get (map (change_live f) s.threads) q)) ≡ is_initial (thread_of s q) = λ q. ap is_initial (at q) ∙ initial_change f k.initial (thread_of s q) in
    record {
      size = length-map s.threads (change_live f) ∙ h.size;
      zero = at 0 ∙ ap (change_live f) h.zero;
      harts = h.harts;
      hart_count = h.hart_count;
      idle = h.idle;
      proper = λ q. ap is_proper_slot (at q) ∙ proper_change f k (thread_of s q) (h.proper q);
      one_initial = λ a b x y. h.one_initial a b (sym (initial a) ∙ x) (sym (initial b) ∙ y);
      placed = λ q. subst (λ (b : Bool). places s q ≤ (if b then 1 else 0)) (sym (ap is_live_thread (at q) ∙ live_change f (thread_of s q))) (h.placed q);
      joined_target = λ q. subst (λ (b : Bool). joiners s q ≤ (if b then 1 else 0)) (sym (ap is_joinable (at q) ∙ joinable_change f k.detached (thread_of s q))) (h.joined_target q);
      joined_by_another = h.joined_by_another;
      deadlines = h.deadlines;
      unwinding_waits = λ q. subst (λ (o : Option Thread). unwind_waits s q ≤ (if is_unwinding o then 1 else 0)) (sym (at q)) (unwinds_on s f k q h);
      proper_keys = p;
      values = λ q. subst (HasValuesOf keys) (sym (at q)) (v (thread_of s q) (h.values q));
    }

-- A NUMBER IS NO KEY

proper_set : (k v : ℕ) (l : Live) → is_proper_live l ≡ true → is_proper_live (setting k v l) ≡ true
proper_set k v l h = (let size = length-set l.specific.values k v in grind (arith, nat_tests, h, size))

pub changes_clearing : (k : ℕ) → IsChange (setting k 0)
changes_clearing k = record { initial = λ l. refl; detached = λ l. refl; proper = proper_set k 0; unwinding = λ l u. u; values = λ keys l v i e. zero_under l.specific.values k i (v i e) }

cleared : (keys : KeyTable) (k : ℕ) (l : Live) → HasValuesOf keys (Some (thread.Live l)) → (i : ℕ) → is_key (with_key k None keys) i ≡ false → value_under i (setting k 0 l).specific ≡ 0
cleared keys k l v i e =
    let none : Option ℕ = None in
    elim (eqb k i) as (λ b. eqb k i ≡ b → value_under i (setting k 0 l).specific ≡ 0) [
      | true ↦ λ s. subst (λ j. get_or (slice_set l.specific.values k 0) j 0 ≡ 0) (eqb-true k i s) (zero_set l.specific.values k)
      | false ↦ λ s. zero_under l.specific.values k i (v i (sym (ap is_some (slot_elsewhere keys.destructors k i none s)) ∙ e))
    ] refl

cleared_values : (keys : KeyTable) (k : ℕ) (o : Option Thread) → ((i : ℕ) → value_under i (data_of None) ≡ 0) → HasValuesOf keys o → HasValuesOf (with_key k None keys) (change_live (setting k 0) o)
cleared_values keys k None z v = λ i _. z i
cleared_values keys k (Some (thread.Ended x)) z v = λ i _. z i
cleared_values keys k (Some (thread.Live l)) z v = cleared keys k l v

pub well_formed_unkeyed : (s : State) (k : ℕ) → IsWellFormed s → IsWellFormed (without_key_of k s)
well_formed_unkeyed s k h = well_formed_all s (setting k 0) (with_key k None s.keys) (changes_clearing k) h (proper_removed s.keys k h.proper_keys) (λ o. cleared_values s.keys k o no_value)

-- A THREAD HAS ANOTHER VALUE

apart : (keys : KeyTable) (k i : ℕ) → is_key keys k ≡ true → is_key keys i ≡ false → i ≡ k → ⊥
apart keys k i a b e = (let c = ap (is_key keys) e in cc)

set_values : (keys : KeyTable) (k v : ℕ) (o : Option Thread) → is_key keys k ≡ true → HasValuesOf keys o → HasValuesOf keys (change_live (setting k v) o)
set_values keys k v None a w = w
set_values keys k v (Some (thread.Ended x)) a w = w
set_values keys k v (Some (thread.Live l)) a w = λ i e. get_or-set_other l.specific.values k i v 0 (apart keys k i a e) ∙ w i e

proper_slot_set : (k v : ℕ) (o : Option Thread) → is_proper_slot o ≡ true → is_proper_slot (change_live (setting k v) o) ≡ true
proper_slot_set k v None h = refl
proper_slot_set k v (Some (thread.Ended x)) h = refl
proper_slot_set k v (Some (thread.Live l)) h = proper_set k v l h

pub well_formed_value : (s : State) (t k v : ℕ) → IsWellFormed s → is_live s t ≡ true → is_key s.keys k ≡ true → IsWellFormed (with_value_of t k v s)
well_formed_value s t k v h l a =
    well_formed_live s t (setting k v) h l
    (may_stand_joinable s t (setting k v) h (λ x. refl) (proper_slot_set k v (thread_of s t) (h.proper t)) (same_unwinding (setting k v) (λ x. refl) (thread_of s t)) (set_values s.keys k v (thread_of s t) a (h.values t)) (λ x. refl))

-- A DESTRUCTOR RUNS

proper_destroyed : (keys : KeyTable) (turn : Turn) (l : Live) → are_proper_keys keys ≡ true → is_some l.cancellation.unwinding ≡ true → IsTurn turn → is_proper_live l ≡ true → is_proper_live (at_destructor keys turn l) ≡ true
proper_destroyed keys turn l p u t h =
    let size = length-set l.specific.values turn.key 0 in
    let aligned = aligned_destructor keys turn.key p in
    grind (arith, nat_tests, h, u, t.begun, t.few, t.key, size, aligned)

destroyed_proper : (keys : KeyTable) (turn : Turn) (o : Option Thread) → are_proper_keys keys ≡ true → is_unwinding o ≡ true → IsTurn turn → is_proper_slot o ≡ true → is_proper_slot (change_live (at_destructor keys turn) o) ≡ true
destroyed_proper keys turn None p u t h = refl
destroyed_proper keys turn (Some (thread.Ended v)) p u t h = refl
destroyed_proper keys turn (Some (thread.Live l)) p u t h = proper_destroyed keys turn l p u t h

destroyed_values : (keys other : KeyTable) (turn : Turn) (o : Option Thread) → HasValuesOf keys o → HasValuesOf keys (change_live (at_destructor other turn) o)
destroyed_values keys other turn None v = v
destroyed_values keys other turn (Some (thread.Ended x)) v = v
destroyed_values keys other turn (Some (thread.Live l)) v = λ i e. zero_under l.specific.values turn.key i (v i e)

-- who has a turn unwinds, and the turn is one of a round and a key that there are
data_is_turn : (keys : KeyTable) (o : Option Thread) (turn : Turn) → is_proper_slot o ≡ true → next_turn keys (data_of o) ≡ Some turn → IsTurn turn
data_is_turn keys None turn p e = is_turn keys (data_of None) turn (omega arith) (omega arith) e
data_is_turn keys (Some (thread.Ended v)) turn p e = is_turn keys (data_of None) turn (omega arith) (omega arith) e
data_is_turn keys (Some (thread.Live l)) turn p e = is_turn keys l.specific turn (few_rounds l p) (next_within l p) e

pub has_turn : (s : State) (t : ℕ) (turn : Turn) → IsWellFormed s → turn_of t s ≡ Some turn → (is_unwinding (thread_of s t) ≡ true) × IsTurn turn
has_turn s t turn h e =
    elim (is_unwinding (thread_of s t)) as (λ b. is_unwinding (thread_of s t) ≡ b → cond b (next_turn s.keys (data_of (thread_of s t))) None ≡ Some turn → (b ≡ true) × IsTurn turn) [
      | true ↦ λ _ x. (refl, data_is_turn s.keys (thread_of s t) turn (h.proper t) x)
      | false ↦ λ _ x. absurd (cc)
    ] refl e

pub well_formed_destroyed : (s : State) (t : ℕ) (turn : Turn) → IsWellFormed s → is_live s t ≡ true → turn_of t s ≡ Some turn → IsWellFormed (record s { threads = change_thread (at_destructor s.keys turn) t s.threads })
well_formed_destroyed s t turn h l e =
    let has = has_turn s t turn h e in
    well_formed_live s t (at_destructor s.keys turn) h l
    (may_stand_joinable s t (at_destructor s.keys turn) h (λ x. refl) (destroyed_proper s.keys turn (thread_of s t) h.proper_keys has.0 has.1 (h.proper t)) (same_unwinding (at_destructor s.keys turn) (λ x. refl) (thread_of s t))
    (destroyed_values s.keys s.keys turn (thread_of s t) (h.values t)) (λ x. refl))
