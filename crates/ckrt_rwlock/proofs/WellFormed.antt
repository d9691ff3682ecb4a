-- What keeps threads and locks well-formed together.
use Rattle.std.proofs.Common.{◌≡◌, ℕ, ◌≤◌, ◌<◌, eqb, eqb-true, Bool, true, false, if◌then◌else◌, not, ◌&&◌, ◌||◌, List, [], ◌∷◌, ◌++◌, length, Some, None, is_some, refl, sym, ap, subst, ◌∙◌, arith, slice_get}
use Rattle.std.specs.List.{list_any, find, filter}
use Rattle.std.proofs.lemmas.Bool.Decides.{nat_tests}
use Rattle.std.proofs.lemmas.List.Folds.{list_any-append}
use Rattle.ckrt_thread.specs.declared.records.Wait.{Wait}
use Rattle.ckrt_thread.specs.declared.records.Reason.{Reason}
use Rattle.ckrt_thread.specs.declared.records.Reason.TheVariants as reason
use Rattle.ckrt_thread.specs.declared.records.Object.TheVariants as object
use Rattle.ckrt_thread.specs.Waits.{is_for, is_reason_for, is_of, without}
use Rattle.ckrt_thread.specs.State.{State, IsWellFormed, first_waiter, blocked}
use Rattle.ckrt_thread.specs.Granting.{queue_of, obtained, grant_waiters, has_admissible_waiter, is_first_admissible}
use Rattle.ckrt_thread.proofs.Grants.{first_of_queue, grants_every_admissible}
use Rattle.ckrt_thread.proofs.Known.{waits_at_most_once}
use Rattle.ckrt_thread.proofs.Unwound.{well_formed_obtained}
use Rattle.ckrt_thread.proofs.WaitLemmas.{found_waits, gone}
use Rattle.ckrt_objects.specs.declared.address_map.Entry.{Entry}
use Rattle.ckrt_objects.specs.AddressMap.{has_entry, has_room, removed, stored}
use Rattle.ckrt_objects.specs.InUse.{is_name, names, addresses_in_use}
use Rattle.ckrt_objects.proofs.InUse.{any_in_use, distinct_le}
use Rattle.ckrt_objects.proofs.Waits.{either, IsAmong, any_among, any_without}
use Rattle.ckrt_objects.proofs.Changes.{room_of_not_full, used_not_full, entry_in_use, few_appended, few_stored, count_removed}
use Rattle.ckrt_objects.proofs.Obtained.{among_rest, PassesNoJoiner}
use Rattle.ckrt_objects.proofs.Granting.{first_range, kept_by_granting, granted_among, granted_elsewhere}
use Rattle.ckrt_rwlock.specs.declared.records.RwLock.{RwLock}
use Rattle.ckrt_rwlock.specs.RwLock.{is_holder, is_reader, is_written, is_held, is_proper, is_exclusive, lock_at, put, IsTable}
use Rattle.ckrt_rwlock.specs.Rows.{named, lock_of, is_used, used_count, is_full, is_awaited, rwlock_rule, is_admissible_for, granted_for}
use Rattle.ckrt_rwlock.specs.WellFormed.{is_waiting_for, IsWellFormedWith}
use Rattle.ckrt_rwlock.proofs.Table.{lock_put, table_put, held_entry, room_of_held}
use Rattle.ckrt_rwlock.proofs.Holders.{holder_holds, proper_reads, other_reads, proper_written, exclusive_written, other_writes}

-- ROOM

pub room_of_unfull : (a : ℕ) (s : State) (ls : List (Entry RwLock)) → IsTable ls → used_count s ls ≤ 64 → is_full a s ls ≡ false → has_room 64 a ls ≡ true
room_of_unfull a s ls t few f = room_of_not_full named 64 a s.waits ls t.rising few f

pub held_not_full : (a : ℕ) (s : State) (ls : List (Entry RwLock)) → is_held (lock_at a ls) ≡ true → is_full a s ls ≡ false
held_not_full a s ls h = used_not_full named 64 a s.waits ls (entry_in_use named a s.waits ls (held_entry a ls h))

-- a lock that a thread holds has an entry, and so there is room for what it becomes
pub room_of_holder : (a t : ℕ) (l : RwLock) (ls : List (Entry RwLock)) → l ≡ lock_at a ls → is_holder t l ≡ true → has_room 64 a ls ≡ true
room_of_holder a t l ls e h = room_of_held a l ls e (holder_holds t l h)

pub room_of_reader : (a t : ℕ) (l : RwLock) (ls : List (Entry RwLock)) → l ≡ lock_at a ls → is_reader t l ≡ true → has_room 64 a ls ≡ true
room_of_reader a t l ls e h = room_of_holder a t l ls e (grind (arith, nat_tests))

few_put : (a : ℕ) (l : RwLock) (s z : State) (ls : List (Entry RwLock)) → used_count s ls ≤ 64 → is_full a s ls ≡ false → IsAmong z.waits s.waits → used_count z (put a l ls) ≤ 64
few_put a l s z ls few f among =
    either (λ ns. used_count z ns ≤ 64) (is_held l) (stored a l ls) (removed a ls)
    (λ _. few_stored named 64 a l z.waits s.waits ls among few f)
    (λ _. let le = count_removed named a z.waits s.waits ls among in omega (arith, le, few))

-- THE LOCK AT AN ADDRESS BECOMES ANOTHER, and some who wait for it may wait no longer

-- What holds of a lock and the threads beside it: nobody who waits for it holds it.
abbrev pub IsApart : ℕ → RwLock → State → Type 0
IsApart a l s = (t : ℕ) → is_waiting_for a t s ≡ true → is_holder t l ≡ false

module _ (a : ℕ) (l : RwLock) (s z : State) (ls : List (Entry RwLock)) (h : IsWellFormedWith s ls) (p : is_proper l ≡ true) (among : IsAmong z.waits s.waits) where
  apart_put : IsApart a l z → (b t : ℕ) → is_waiting_for b t z ≡ true → is_holder t (lock_at b (put a l ls)) ≡ false
  apart_put apart b t w =
      rw (lock_put a b l ls h.table p)
      (either (λ m. is_holder t m ≡ false) (eqb a b) l (lock_at b ls)
      (λ e. apart t (subst (λ c. is_waiting_for c t z ≡ true) (sym (eqb-true a b e)) w))
      (λ _. h.no_waiter_holds b t (any_among z.waits s.waits among (λ w. is_of t w && is_for (object.RwLock b) w) w)))

  first_put : has_admissible_waiter (rwlock_rule a) (l, z) ≡ false → ((b : ℕ) → eqb a b ≡ false → first_waiter (object.RwLock b) z ≡ first_waiter (object.RwLock b) s)
      → (b : ℕ) → has_admissible_waiter (rwlock_rule b) (lock_at b (put a l ls), z) ≡ false
  first_put here elsewhere b =
      rw (lock_put a b l ls h.table p)
      (either (λ m. has_admissible_waiter (rwlock_rule b) (m, z) ≡ false) (eqb a b) l (lock_at b ls)
      (λ e. subst (λ c. has_admissible_waiter (rwlock_rule c) (l, z) ≡ false) (eqb-true a b e) here)
      (λ e. ap (λ f. is_first_admissible (rwlock_rule b) f (lock_at b ls)) (elsewhere b e) ∙ h.no_first_waiter_is_admissible b))

  pub well_formed_change : is_exclusive l ≡ true → is_full a s ls ≡ false → IsApart a l z → has_admissible_waiter (rwlock_rule a) (l, z) ≡ false
      → ((b : ℕ) → eqb a b ≡ false → first_waiter (object.RwLock b) z ≡ first_waiter (object.RwLock b) s) → IsWellFormedWith z (put a l ls)
  well_formed_change x f apart here elsewhere = record {
    table = table_put a l ls p x h.table;
    at_most_64_in_use = few_put a l s z ls h.at_most_64_in_use f among;
    no_waiter_holds = apart_put apart;
    no_first_waiter_is_admissible = first_put here elsewhere;
  }

-- a lock is held by more
pub well_formed_taken : (a : ℕ) (l : RwLock) (s : State) (ls : List (Entry RwLock)) → IsWellFormedWith s ls → is_proper l ≡ true → is_exclusive l ≡ true → is_full a s ls ≡ false
    → IsApart a l s → has_admissible_waiter (rwlock_rule a) (l, s) ≡ false → IsWellFormedWith s (put a l ls)
well_formed_taken a l s ls h p x f apart here = well_formed_change a l s s ls h p (λ g y. y) x f apart here (λ b e. refl)

-- GRANTING

-- what each grant keeps
pub record IsGrantable (l : RwLock) (s : State) : Type 0 where
  pub proper : is_proper l ≡ true
  pub exclusive : is_exclusive l ≡ true
  pub threads : IsWellFormed s

-- a reader is granted a lock that nobody writes under
pub admitted_unwritten : (r : Reason) (b : ℕ) (l : RwLock) → r ≡ reason.Read b → is_admissible_for r l ≡ true → is_written l ≡ false
admitted_unwritten r b l e ad = let u : not (is_written l) ≡ true = rw e at ad in grind (arith, nat_tests)

proper_granted : (r : Reason) (t : ℕ) (l : RwLock) → is_proper l ≡ true → 0 < t → t ≤ 64 → is_proper (granted_for r t l) ≡ true
proper_granted reason.Input t l p k m = p
proper_granted reason.Sleep t l p k m = p
proper_granted (reason.Join i) t l p k m = p
proper_granted (reason.Lock b) t l p k m = p
proper_granted (reason.Retake b v) t l p k m = p
proper_granted (reason.Condition c b) t l p k m = p
proper_granted (reason.Barrier b) t l p k m = p
proper_granted (reason.Read b) t l p k m = proper_reads l t 1 p k (omega arith)
proper_granted (reason.Write b) t l p k m = proper_written l t p k m

exclusive_granted : (r : Reason) (t : ℕ) (l : RwLock) → is_exclusive l ≡ true → is_admissible_for r l ≡ true → is_exclusive (granted_for r t l) ≡ true
exclusive_granted reason.Input t l x a = x
exclusive_granted reason.Sleep t l x a = x
exclusive_granted (reason.Join i) t l x a = x
exclusive_granted (reason.Lock b) t l x a = x
exclusive_granted (reason.Retake b v) t l x a = x
exclusive_granted (reason.Condition c b) t l x a = x
exclusive_granted (reason.Barrier b) t l x a = x
exclusive_granted (reason.Read b) t l x a = grind (arith, nat_tests)
exclusive_granted (reason.Write b) t l x a = exclusive_written l t (grind (arith, nat_tests))

other_granted : (r : Reason) (t u : ℕ) (l : RwLock) → eqb t u ≡ false → is_holder u l ≡ false → is_holder u (granted_for r t l) ≡ false
other_granted reason.Input t u l e h = h
other_granted reason.Sleep t u l e h = h
other_granted (reason.Join i) t u l e h = h
other_granted (reason.Lock b) t u l e h = h
other_granted (reason.Retake b v) t u l e h = h
other_granted (reason.Condition c b) t u l e h = h
other_granted (reason.Barrier b) t u l e h = h
other_granted (reason.Read b) t u l e h = other_reads l t u 1 e h
other_granted (reason.Write b) t u l e h = other_writes l t u e h

-- who waits for a lock waits
waiting_for_waits : (a t : ℕ) (ws : List Wait) → list_any (λ w. is_of t w && is_for (object.RwLock a) w) ws ≡ true → list_any (is_of t) ws ≡ true
waiting_for_waits a t [] h = absurd (cc)
waiting_for_waits a t (w ∷ ws) h = grind (arith, nat_tests, waiting_for_waits a t ws)

another_from : (b : Bool) (t u : ℕ) (ws : List Wait) → eqb t u ≡ b → list_any (is_of u) ws ≡ true → list_any (is_of t) ws ≡ false → b ≡ false
another_from true t u ws e w n = absurd (let n2 = subst (λ q. list_any (is_of q) ws ≡ false) (eqb-true t u e) n in cc)
another_from false t u ws e w n = refl

-- who still waits is not the one whose wait has ended
another_waits : (a t u : ℕ) (s : State) → IsWellFormed s → list_any (λ w. is_of u w && is_for (object.RwLock a) w) (without t s.waits) ≡ true → eqb t u ≡ false
another_waits a t u s k h =
    another_from (eqb t u) t u (without t s.waits) refl (waiting_for_waits a u (without t s.waits) h) (gone t s.waits (waits_at_most_once s t k))

pub waiter_is_another : (a t u : ℕ) (s : State) → list_any (is_of t) s.waits ≡ false → is_waiting_for a u s ≡ true → eqb t u ≡ false
waiter_is_another a t u s n h = another_from (eqb t u) t u s.waits refl (waiting_for_waits a u s.waits h) n

apart_granted : (a : ℕ) (l : RwLock) (s : State) (w : Wait) → IsWellFormed s → IsApart a l s → IsApart a (granted_for w.reason w.thread l) (obtained w s)
apart_granted a l s w k apart u h =
    let rest = any_among (obtained w s).waits (without w.thread s.waits) (among_rest w s) (λ x. is_of u x && is_for (object.RwLock a) x) h in
    other_granted w.reason w.thread u l (another_waits a w.thread u s k rest) (apart u (any_without (λ x. is_of u x && is_for (object.RwLock a) x) w.thread s.waits rest))

-- who gets the lock leaves the threads well-formed
well_formed_first : (a : ℕ) (s : State) (w : Wait) → IsWellFormed s → first_waiter (object.RwLock a) s ≡ Some w → IsWellFormed (obtained w s)
well_formed_first a s w k e = well_formed_obtained w s k (found_waits (is_for (object.RwLock a)) s.waits w e)

grantable_step : (a : ℕ) (l : RwLock) (s : State) (w : Wait) → IsGrantable l s → first_waiter (object.RwLock a) s ≡ Some w → is_admissible_for w.reason l ≡ true
    → IsGrantable (granted_for w.reason w.thread l) (obtained w s)
grantable_step a l s w g e ad =
    let id = first_range (object.RwLock a) s w g.threads e in
    record {
      proper = proper_granted w.reason w.thread l g.proper id.0 id.1;
      exclusive = exclusive_granted w.reason w.thread l g.exclusive ad;
      threads = well_formed_first a s w g.threads e;
    }

pub grantable_after : (a : ℕ) (l : RwLock) (s : State) → IsGrantable l s → IsGrantable (grant_waiters (rwlock_rule a) l s).0 (grant_waiters (rwlock_rule a) l s).1
grantable_after a l s g = kept_by_granting (rwlock_rule a) (λ m z. IsGrantable m z) (λ m z w k e ad. grantable_step a m z w k e ad) l s g

apart_after : (a : ℕ) (l : RwLock) (s : State) → IsWellFormed s → IsApart a l s → IsApart a (grant_waiters (rwlock_rule a) l s).0 (grant_waiters (rwlock_rule a) l s).1
apart_after a l s k apart =
    let kept = kept_by_granting (rwlock_rule a) (λ m z. IsWellFormed z × IsApart a m z)
    (λ m z w h e ad. (well_formed_first a z w h.0 e, apart_granted a m z w h.0 h.1)) l s (k, apart) in
    kept.1

-- a wait for one lock is for no other
not_for_other : (a b : ℕ) (r : Reason) → eqb a b ≡ false → is_reason_for (object.RwLock a) r ≡ true → is_reason_for (object.RwLock b) r ≡ false
not_for_other a b reason.Input e h = refl
not_for_other a b reason.Sleep e h = refl
not_for_other a b (reason.Join i) e h = refl
not_for_other a b (reason.Lock m) e h = refl
not_for_other a b (reason.Retake m v) e h = refl
not_for_other a b (reason.Condition c m) e h = refl
not_for_other a b (reason.Barrier c) e h = refl
not_for_other a b (reason.Read l) e h = grind (arith, nat_tests)
not_for_other a b (reason.Write l) e h = grind (arith, nat_tests)

-- who joins a thread waits for no lock
joiner_elsewhere : (b t : ℕ) (r : Reason) → is_reason_for (object.End t) r ≡ true → is_reason_for (object.RwLock b) r ≡ false
joiner_elsewhere b t reason.Input h = refl
joiner_elsewhere b t reason.Sleep h = refl
joiner_elsewhere b t (reason.Join i) h = refl
joiner_elsewhere b t (reason.Lock m) h = refl
joiner_elsewhere b t (reason.Retake m v) h = refl
joiner_elsewhere b t (reason.Condition c m) h = refl
joiner_elsewhere b t (reason.Barrier c) h = refl
joiner_elsewhere b t (reason.Read l) h = absurd (cc)
joiner_elsewhere b t (reason.Write l) h = absurd (cc)

passes_no_joiner : (b : ℕ) → PassesNoJoiner (is_for (object.RwLock b))
passes_no_joiner b t w h = joiner_elsewhere b t w.reason h

-- granting a lock leaves the first who waits for another
first_elsewhere : (a b : ℕ) (l : RwLock) (s : State) → IsWellFormed s → eqb a b ≡ false → first_waiter (object.RwLock b) (grant_waiters (rwlock_rule a) l s).1 ≡ first_waiter (object.RwLock b) s
first_elsewhere a b l s k e =
    let same : queue_of (object.RwLock b) (grant_waiters (rwlock_rule a) l s).1 ≡ queue_of (object.RwLock b) s =
    granted_elsewhere (rwlock_rule a) (is_for (object.RwLock b)) (λ w h. not_for_other a b w.reason e h) (passes_no_joiner b) l s k in
    first_of_queue (object.RwLock b) (grant_waiters (rwlock_rule a) l s).1 ∙ ap (λ q. slice_get q 0) same ∙ sym (first_of_queue (object.RwLock b) s)

-- a lock that is held becomes this one, and its waiters are granted it
pub well_formed_released : (a : ℕ) (l : RwLock) (s : State) (ls : List (Entry RwLock)) → IsWellFormedWith s ls → IsGrantable l s → IsApart a l s → is_full a s ls ≡ false
    → IsWellFormedWith (grant_waiters (rwlock_rule a) l s).1 (put a (grant_waiters (rwlock_rule a) l s).0 ls)
well_formed_released a l s ls h g apart f =
    let r = grant_waiters (rwlock_rule a) l s in
    let after = grantable_after a l s g in
    well_formed_change a r.0 s r.1 ls h after.proper (granted_among (rwlock_rule a) l s) after.exclusive f (apart_after a l s g.threads apart) (grants_every_admissible (rwlock_rule a) l s)
    (λ b e. first_elsewhere a b l s g.threads e)

-- A THREAD WAITS for a lock from now on

found_before : (q : Wait → Bool) (ws : List Wait) (w v : Wait) → find q ws ≡ Some v → find q (ws ++ w ∷ []) ≡ Some v
found_before q [] w v e = absurd (cc)
found_before q (x ∷ ws) w v e = grind (arith, nat_tests, found_before q ws w v)

found_last : (q : Wait → Bool) (ws : List Wait) (w : Wait) → find q ws ≡ None → find q (ws ++ w ∷ []) ≡ (if q w then Some w else None)
found_last q [] w e = refl
found_last q (x ∷ ws) w e = grind (arith, nat_tests, found_last q ws w)

or_false : (b : Bool) → (b || false) ≡ b
or_false true = refl
or_false false = refl

either_way : (a b : Bool) → (a || b) ≡ true → a ≡ false → b ≡ true
either_way true b h e = absurd (cc)
either_way false b h e = h

module _ (a t : ℕ) (r : Reason) (s : State) (ls : List (Entry RwLock)) (h : IsWellFormedWith s ls) (at_lock : (b : ℕ) → is_reason_for (object.RwLock b) r ≡ eqb b a) where
  waits_more : (b u : ℕ) → is_waiting_for b u (blocked t r None s) ≡ (is_waiting_for b u s || (eqb u t && is_reason_for (object.RwLock b) r))
  waits_more b u =
      list_any-append (λ w. is_of u w && is_for (object.RwLock b) w) s.waits (record { thread = t; reason = r; deadline = None } ∷ [])
      ∙ ap (λ c. is_waiting_for b u s || c) (or_false (eqb u t && is_reason_for (object.RwLock b) r))

  apart_blocked : is_holder t (lock_at a ls) ≡ false → (b u : ℕ) → is_waiting_for b u (blocked t r None s) ≡ true → is_holder u (lock_at b ls) ≡ false
  apart_blocked free b u w =
      elim (is_waiting_for b u s) as (λ c. is_waiting_for b u s ≡ c → is_holder u (lock_at b ls) ≡ false) [
        | true ↦ λ e. h.no_waiter_holds b u e
        | false ↦ λ e.
            let new : (eqb u t && is_reason_for (object.RwLock b) r) ≡ true = either_way (is_waiting_for b u s) (eqb u t && is_reason_for (object.RwLock b) r) (sym (waits_more b u) ∙ w) e in
            let who : u ≡ t = eqb-true u t (grind (arith, nat_tests)) in
            let place : b ≡ a = eqb-true b a (sym (at_lock b) ∙ grind (arith, nat_tests)) in
            rw (who, place) free
      ] refl

  first_blocked : (is_awaited a s ≡ false → is_admissible_for r (lock_at a ls) ≡ false) → (b : ℕ) → has_admissible_waiter (rwlock_rule b) (lock_at b ls, blocked t r None s) ≡ false
  first_blocked new b =
      let w : Wait = record { thread = t; reason = r; deadline = None } in
      elim (first_waiter (object.RwLock b) s) as (λ f. first_waiter (object.RwLock b) s ≡ f → has_admissible_waiter (rwlock_rule b) (lock_at b ls, blocked t r None s) ≡ false) [
        | Some v ↦ λ e.
            ap (λ f. is_first_admissible (rwlock_rule b) f (lock_at b ls)) (found_before (is_for (object.RwLock b)) s.waits w v e ∙ sym e) ∙ h.no_first_waiter_is_admissible b
        | None ↦ λ e.
            ap (λ f. is_first_admissible (rwlock_rule b) f (lock_at b ls)) (found_last (is_for (object.RwLock b)) s.waits w e)
            ∙ either (λ f. is_first_admissible (rwlock_rule b) f (lock_at b ls) ≡ false) (is_reason_for (object.RwLock b) r) (Some w) None
            (λ i. let place : a ≡ b = sym (eqb-true b a (sym (at_lock b) ∙ i)) in
            subst (λ c. is_admissible_for r (lock_at c ls) ≡ false) place (new (rw place (ap is_some e))))
            (λ i. refl)
      ] refl

  pub well_formed_blocked : lock_of r ≡ Some a → is_full a s ls ≡ false → is_holder t (lock_at a ls) ≡ false → (is_awaited a s ≡ false → is_admissible_for r (lock_at a ls) ≡ false)
      → IsWellFormedWith (blocked t r None s) ls
  well_formed_blocked e f free new = record {
    table = h.table;
    at_most_64_in_use = few_appended named 64 a s.waits (record { thread = t; reason = r; deadline = None }) ls e h.at_most_64_in_use f;
    no_waiter_holds = apart_blocked free;
    no_first_waiter_is_admissible = first_blocked new;
  }

-- CHANGES OF OTHER OBJECTS leave the locks as they are

-- no lock is held, and nobody waits
no_waits : (ws : List Wait) → length ws ≡ 0 → ws ≡ []
no_waits [] l = refl
no_waits (w ∷ ws) l = absurd (omega arith)

pub well_formed_unheld : (s : State) → length s.waits ≡ 0 → IsWellFormedWith s []
well_formed_unheld s l =
    let none = no_waits s.waits l in
    record {
      table = record { rising = refl; canonical = refl; proper = refl; no_reader_beside_a_writer = refl };
      at_most_64_in_use = rw none (omega arith);
      no_waiter_holds = λ a t w. absurd (let v = rw none at w in cc);
      no_first_waiter_is_admissible = λ a. rw none refl;
    }

queue_any : (q p : Wait → Bool) (ws : List Wait) → list_any p (filter q ws) ≡ list_any (λ w. p w && q w) ws
queue_any q p [] = refl
queue_any q p (w ∷ ws) = grind (arith, nat_tests, queue_any q p ws)

names_is_for : (a : ℕ) (r : Reason) → is_name a (lock_of r) ≡ is_reason_for (object.RwLock a) r
names_is_for a reason.Input = refl
names_is_for a reason.Sleep = refl
names_is_for a (reason.Join i) = refl
names_is_for a (reason.Lock b) = refl
names_is_for a (reason.Retake b v) = refl
names_is_for a (reason.Condition c b) = refl
names_is_for a (reason.Barrier b) = refl
names_is_for a (reason.Read l) = refl
names_is_for a (reason.Write l) = refl

named_is_queued : (a : ℕ) (ws : List Wait) → list_any (names named a) ws ≡ list_any (λ w. true) (filter (is_for (object.RwLock a)) ws)
named_is_queued a [] = refl
named_is_queued a (w ∷ ws) = grind (arith, nat_tests, names_is_for a w.reason, named_is_queued a ws)

-- where each lock's queue is the same
module _ (s z : State) (ls : List (Entry RwLock)) (same : (a : ℕ) → queue_of (object.RwLock a) z ≡ queue_of (object.RwLock a) s) where
  used_elsewhere : (a : ℕ) → is_used a z ls ≡ is_used a s ls
  used_elsewhere a =
      let here : list_any (names named a) z.waits ≡ list_any (names named a) s.waits =
      named_is_queued a z.waits ∙ ap (λ q. list_any (λ w. true) q) (same a) ∙ sym (named_is_queued a s.waits) in
      any_in_use named a z.waits ls ∙ ap (λ b. b || has_entry a ls) here ∙ sym (any_in_use named a s.waits ls)

  waiting_elsewhere : (a t : ℕ) → is_waiting_for a t z ≡ is_waiting_for a t s
  waiting_elsewhere a t =
      sym (queue_any (is_for (object.RwLock a)) (is_of t) z.waits) ∙ ap (λ q. list_any (is_of t) q) (same a) ∙ queue_any (is_for (object.RwLock a)) (is_of t) s.waits

  first_same : (a : ℕ) → first_waiter (object.RwLock a) z ≡ first_waiter (object.RwLock a) s
  first_same a = first_of_queue (object.RwLock a) z ∙ ap (λ q. slice_get q 0) (same a) ∙ sym (first_of_queue (object.RwLock a) s)

  pub well_formed_elsewhere : IsWellFormedWith s ls → IsWellFormedWith z ls
  well_formed_elsewhere h = record {
    table = h.table;
    at_most_64_in_use = (let le = distinct_le (addresses_in_use named z.waits ls) (addresses_in_use named s.waits ls) (λ q u. sym (used_elsewhere q) ∙ u) in omega (arith, le, h.at_most_64_in_use));
    no_waiter_holds = λ a t w. h.no_waiter_holds a t (sym (waiting_elsewhere a t) ∙ w);
    no_first_waiter_is_admissible = λ a. ap (λ f. is_first_admissible (rwlock_rule a) f (lock_at a ls)) (first_same a) ∙ h.no_first_waiter_is_admissible a;
  }

-- the waits are the same
pub well_formed_same : (s z : State) (ls : List (Entry RwLock)) → z.waits ≡ s.waits → IsWellFormedWith s ls → IsWellFormedWith z ls
well_formed_same s z ls e h = well_formed_elsewhere s z ls (λ a. ap (λ ws. filter (is_for (object.RwLock a)) ws) e) h
