-- What keeps threads and barriers well-formed together.
use Rattle.std.proofs.Common.{◌≡◌, ℕ, ◌+◌, ◌≤◌, ◌<◌, ◌==◌, eqb, eqb-true, Bool, true, false, not, List, [], ◌∷◌, ◌++◌, length, Option, Some, None, is_some, refl, subst, ◌∙◌, arith}
use Rattle.std.specs.List.{filter}
use Rattle.std.proofs.lemmas.Bool.Decides.{nat_tests}
use Rattle.ckrt_thread.specs.declared.records.Wait.{Wait}
use Rattle.ckrt_thread.specs.declared.records.Reason.{Reason}
use Rattle.ckrt_thread.specs.declared.records.Reason.TheVariants as reason
use Rattle.ckrt_thread.specs.declared.records.Object.TheVariants as object
use Rattle.ckrt_thread.specs.Waits.{is_for, is_reason_for, without}
use Rattle.ckrt_thread.specs.State.{State, first_waiter, blocked, woken, all_woken}
use Rattle.ckrt_thread.proofs.Grants.{empty_queue}
use Rattle.ckrt_thread.proofs.Waking.{kept_all_woken}
use Rattle.ckrt_objects.specs.declared.address_map.Entry.{Entry}
use Rattle.ckrt_objects.specs.AddressMap.{has_entry, lookup, stored, removed}
use Rattle.ckrt_objects.proofs.AddressMap.{lookup_stored, lookup_removed}
use Rattle.ckrt_objects.proofs.Waits.{either, queue_last, queue_other}
use Rattle.ckrt_barrier.specs.declared.barrier.Barrier.{Barrier}
use Rattle.ckrt_barrier.specs.Rows.{After, waiters, has_waiters, is_full, init_row, destroy_row, wait_at, wait_row}
use Rattle.ckrt_barrier.specs.WellFormed.{IsWellFormedWith}
use Rattle.ckrt_barrier.proofs.Table.{table_stored, table_removed}

-- HOW MANY WAIT

nobody_first : (b : ℕ) (s : State) (o : Option Wait) → first_waiter (object.Barrier b) s ≡ o → is_some o ≡ false → waiters b s ≡ []
nobody_first b s None e n = empty_queue (object.Barrier b) s e
nobody_first b s (Some w) e n = absurd (cc)

nobody : (b : ℕ) (s : State) → has_waiters b s ≡ false → waiters b s ≡ []
nobody b s n = nobody_first b s (first_waiter (object.Barrier b) s) refl n

none_of_none : (ws : List Wait) → length ws ≤ 0 → ws ≡ []
none_of_none [] l = refl
none_of_none (w ∷ ws) l = absurd (omega arith)

fewer_without : (p : Wait → Bool) (t : ℕ) (ws : List Wait) → length (filter p (without t ws)) ≤ length (filter p ws)
fewer_without p t [] = omega arith
fewer_without p t (w ∷ ws) = grind (arith, nat_tests, fewer_without p t ws)

longer : (ws : List Wait) (w : Wait) → length (ws ++ w ∷ []) ≡ length ws + 1
longer [] w = refl
longer (v ∷ ws) w = grind (arith, nat_tests, longer ws w)

-- nobody waits, and there is no barrier
pub well_formed_empty : (s : State) → s.waits ≡ [] → IsWellFormedWith s []
well_formed_empty s e = record {
  table = record { rising = refl; at_most_64 = omega arith; counts = refl };
  fewer_wait_than_the_count = λ q r l. absurd (cc);
  nobody_waits_where_no_barrier_is = λ q _. rw e refl;
}

-- nowhere do more threads wait
pub well_formed_fewer : (s z : State) (bs : List (Entry Barrier)) → ((q : ℕ) → length (waiters q z) ≤ length (waiters q s)) → IsWellFormedWith s bs → IsWellFormedWith z bs
well_formed_fewer s z bs le h = record {
  table = h.table;
  fewer_wait_than_the_count = λ q r e. (let l = le q in let f = h.fewer_wait_than_the_count q r e in omega (arith, l, f));
  nobody_waits_where_no_barrier_is = λ q e. none_of_none (waiters q z) (let l = rw (h.nobody_waits_where_no_barrier_is q e) at (le q) in l);
}

-- the waits are the same
pub well_formed_same : (s z : State) (bs : List (Entry Barrier)) → z.waits ≡ s.waits → IsWellFormedWith s bs → IsWellFormedWith z bs
well_formed_same s z bs e h = well_formed_fewer s z bs (λ q. rw e (omega arith)) h

-- a wait has ended
pub well_formed_unwaited : (t : ℕ) (s z : State) (bs : List (Entry Barrier)) → z.waits ≡ without t s.waits → IsWellFormedWith s bs → IsWellFormedWith z bs
well_formed_unwaited t s z bs e h = well_formed_fewer s z bs (λ q. rw e (fewer_without (is_for (object.Barrier q)) t s.waits)) h

-- a wait begins that is at no barrier
pub well_formed_elsewhere : (t : ℕ) (r : Reason) (d : Option ℕ) (s : State) (bs : List (Entry Barrier)) → ((q : ℕ) → is_reason_for (object.Barrier q) r ≡ false) → IsWellFormedWith s bs → IsWellFormedWith (blocked t r d s) bs
well_formed_elsewhere t r d s bs n h =
    well_formed_fewer s (blocked t r d s) bs (λ q. rw (queue_other (is_for (object.Barrier q)) s.waits (record { thread = t; reason = r; deadline = d }) (n q)) (omega arith)) h

-- THE TABLE CHANGES, at a barrier where nobody waits

module _ (b : ℕ) (s : State) (bs : List (Entry Barrier)) (h : IsWellFormedWith s bs) (none : waiters b s ≡ []) where
  set_count : (n q : ℕ) (r : Barrier) → eqb n 0 ≡ false → eqb b q ≡ true → Some (record { count = n }) ≡ Some r → length (waiters q s) < r.count
  set_count n q r z same e =
      let count : n ≡ r.count = cc in
      rw (← eqb-true b q same, none) (grind (arith, nat_tests))

  pub well_formed_stored : (n : ℕ) → eqb n 0 ≡ false → is_full b bs ≡ false → IsWellFormedWith s (stored b (record { count = n }) bs)
  well_formed_stored n z f = record {
    table = table_stored b n bs z f h.table;
    fewer_wait_than_the_count = λ q r. rw (lookup_stored b q (record { count = n }) bs)
        (either {X = Option Barrier} (λ o. o ≡ Some r → length (waiters q s) < r.count) (eqb b q) _ _ (λ same e. set_count n q r z same e) (λ _ e. h.fewer_wait_than_the_count q r e));
    nobody_waits_where_no_barrier_is = λ q. rw (lookup_stored b q (record { count = n }) bs)
        (either {X = Option Barrier} (λ o. o ≡ None → waiters q s ≡ []) (eqb b q) _ _ (λ _ e. absurd (cc)) (λ _ e. h.nobody_waits_where_no_barrier_is q e));
  }

  pub well_formed_removed : IsWellFormedWith s (removed b bs)
  well_formed_removed = record {
    table = table_removed b bs h.table;
    fewer_wait_than_the_count = λ q r. rw (lookup_removed b q bs h.table.rising)
        (either {X = Option Barrier} (λ o. o ≡ Some r → length (waiters q s) < r.count) (eqb b q) _ _ (λ _ e. absurd (cc)) (λ _ e. h.fewer_wait_than_the_count q r e));
    nobody_waits_where_no_barrier_is = λ q. rw (lookup_removed b q bs h.table.rising)
        (either {X = Option Barrier} (λ o. o ≡ None → waiters q s ≡ []) (eqb b q) _ _ (λ same _. rw (← eqb-true b q same) none) (λ _ e. h.nobody_waits_where_no_barrier_is q e));
  }

-- WAITS AT A BARRIER begin and end

-- these waits end
pub well_formed_woken : (v : ℕ) (ws : List Wait) (s : State) (bs : List (Entry Barrier)) → IsWellFormedWith s bs → IsWellFormedWith (all_woken v ws s) bs
well_formed_woken v ws s bs h = kept_all_woken (λ z. IsWellFormedWith z bs) (λ t u z k. well_formed_unwaited t z (woken t u z) bs refl k) v ws s h

module _ (t b : ℕ) (r : Barrier) (s : State) (bs : List (Entry Barrier)) (h : IsWellFormedWith s bs) (there : lookup b bs ≡ Some r) (more : (length (waiters b s) + 1 == r.count) ≡ false) where
  waits : State
  waits = blocked t (reason.Barrier b) None s

  here : (q : ℕ) → eqb q b ≡ true → waiters q (blocked t (reason.Barrier b) None s) ≡ waiters q s ++ (record { thread = t; reason = reason.Barrier b; deadline = None }) ∷ []
  here q e = queue_last (is_for (object.Barrier q)) s.waits (record { thread = t; reason = reason.Barrier b; deadline = None }) e

  other : (q : ℕ) → eqb q b ≡ false → waiters q (blocked t (reason.Barrier b) None s) ≡ waiters q s
  other q e = queue_other (is_for (object.Barrier q)) s.waits (record { thread = t; reason = reason.Barrier b; deadline = None }) e

  still_fewer : (q : ℕ) (r' : Barrier) → lookup q bs ≡ Some r' → (c : Bool) → eqb q b ≡ c → length (waiters q (blocked t (reason.Barrier b) None s)) < r'.count
  still_fewer q r' e false n = rw (other q n) (h.fewer_wait_than_the_count q r' e)
  still_fewer q r' e true n =
      let same : q ≡ b = eqb-true q b n in
      let count : r.count ≡ r'.count = (let l : lookup b bs ≡ Some r' = subst (λ a. lookup a bs ≡ Some r') same e in cc) in
      let few = h.fewer_wait_than_the_count b r there in
      rw (here q n, longer (waiters q s) (record { thread = t; reason = reason.Barrier b; deadline = None }), same) (grind (arith, nat_tests, more, few, count))

  still_nobody : (q : ℕ) → lookup q bs ≡ None → (c : Bool) → eqb q b ≡ c → waiters q (blocked t (reason.Barrier b) None s) ≡ []
  still_nobody q e false n = other q n ∙ h.nobody_waits_where_no_barrier_is q e
  still_nobody q e true n = absurd (let l : lookup b bs ≡ None = subst (λ a. lookup a bs ≡ None) (eqb-true q b n) e in cc)

  pub well_formed_waiting : IsWellFormedWith (blocked t (reason.Barrier b) None s) bs
  well_formed_waiting = record {
    table = h.table;
    fewer_wait_than_the_count = λ q r' e. still_fewer q r' e (eqb q b) refl;
    nobody_waits_where_no_barrier_is = λ q e. still_nobody q e (eqb q b) refl;
  }

-- THE ROWS

abbrev IsKept : After → Type 0
IsKept r = IsWellFormedWith r.threads r.barriers

pub well_formed_init : (b n : ℕ) (s : State) (bs : List (Entry Barrier)) → IsWellFormedWith s bs → IsKept (init_row b n s bs)
well_formed_init b n s bs h =
    either IsKept (has_waiters b s) _ _ (λ _. h) (λ w.
    either IsKept (n == 0) _ _ (λ _. h) (λ z.
    either IsKept (is_full b bs) _ _ (λ _. h) (λ f. well_formed_stored b s bs h (nobody b s w) n z f)))

pub well_formed_destroy : (b : ℕ) (s : State) (bs : List (Entry Barrier)) → IsWellFormedWith s bs → IsKept (destroy_row b s bs)
well_formed_destroy b s bs h =
    either IsKept (has_waiters b s) _ _ (λ _. h) (λ w.
    either IsKept (not (has_entry b bs)) _ _ (λ _. h) (λ _. well_formed_removed b s bs h (nobody b s w)))

well_formed_wait_at : (t b : ℕ) (o : Option Barrier) (s : State) (bs : List (Entry Barrier)) → lookup b bs ≡ o → IsWellFormedWith s bs → IsKept (wait_at o t b s bs)
well_formed_wait_at t b None s bs e h = h
well_formed_wait_at t b (Some r) s bs e h =
    either IsKept (length (waiters b s) + 1 == r.count) _ _ (λ _. well_formed_woken 0 (waiters b s) s bs h) (λ n. well_formed_waiting t b r s bs h e n)

pub well_formed_wait : (t b : ℕ) (s : State) (bs : List (Entry Barrier)) → IsWellFormedWith s bs → IsKept (wait_row t b s bs)
well_formed_wait t b s bs h = well_formed_wait_at t b (lookup b bs) s bs refl h
