-- Each small change keeps states well-formed.
use Rattle.std.proofs.Common.{◌≡◌, ℕ, zero, suc, ◌+◌, ◌-◌, ◌≤◌, ◌<◌, Bool, true, false, cond, eqb, eqb-true, not, List, [], ◌∷◌, ◌++◌, length, take, IfSome, Option, Some, None, is_some, refl, sym, ap, subst, ◌∙◌, arith, slice_get, slice_set, if◌then◌else◌, ◌&&◌}
use Rattle.std.specs.List.{list_all}
use Rattle.std.specs.Option.{option_flatten}
use Rattle.std.proofs.lemmas.List.{length-map, length-set, length-append}
use Rattle.std.proofs.lemmas.List.Folds.{list_all-append}
use Rattle.std.proofs.lemmas.Bool.Decides.{nat_tests}
use Rattle.ckrt_thread.specs.declared.records.Thread.{Thread}
use Rattle.ckrt_thread.specs.declared.records.Thread.TheVariants as thread
use Rattle.ckrt_thread.specs.declared.records.Live.{Live}
use Rattle.ckrt_thread.specs.declared.records.Wait.{Wait}
use Rattle.ckrt_thread.specs.declared.records.Reason.{Reason}
use Rattle.ckrt_thread.specs.declared.records.Reason.TheVariants as reason
use Rattle.ckrt_thread.specs.declared.records.Object.TheVariants as object
use Rattle.ckrt_registers.specs.Registers.{Registers}
use Rattle.ckrt_thread.specs.declared.records.Cancellation.{Cancellation}
use Rattle.ckrt_thread.specs.declared.records.Handler.{Handler}
use Rattle.ckrt_thread.specs.Cancellation.{is_unwinding, is_consistent, is_aligned_handler, handlers_of, newest, with_cancellation, pushing, popping, entering}
use Rattle.ckrt_thread.specs.Rows.{detached}
use Rattle.ckrt_thread.specs.Unwinding.{with_cancellation_of, pushed}
use Rattle.ckrt_thread.specs.Waits.{is_of, is_for, is_reason_for, without, is_deadline_of, has_proper_deadline, joins_another, is_to_unwind, is_unwind_of}
use Rattle.ckrt_thread.specs.State.{State, IsWellFormed, first_waiter, thread_of, is_live, is_live_thread, is_initial, is_joinable, is_waiting, is_ready, holds, off, count_of, places, joiners, unwind_waits, is_aligned, is_proper_live, is_proper_slot, fresh, first_of_program, with_word, with_regs, change_live, change_thread, with_slot, off_hart, placed_on, may_join, may_wait, blocked}
use Rattle.ckrt_thread.specs.declared.records.Object.{Object}
use Rattle.ckrt_thread.specs.WaitList.{without_wait, without_first}
use Rattle.ckrt_thread.specs.Contents.{empty}
use Rattle.ckrt_thread.specs.Keys.{KeyTable, no_keys, are_proper_keys, value_under, HasValuesOf}
use Rattle.ckrt_thread.proofs.KeyLemmas.{no_value}
use Rattle.ckrt_thread.proofs.Counting.{count_of-append, count_of_none}
use Rattle.ckrt_thread.proofs.WaitLemmas.{count_of-without, list_all-without, unwind_of, no_unwind}
use Rattle.ckrt_thread.proofs.SlotLemmas.{changed_at, kept_at, slot_at, empty_slot, live_change}
use Rattle.ckrt_thread.proofs.HartLemmas.{count_of-off, idle_off, count_of-put, idle_put, none_held}
use Rattle.ckrt_thread.proofs.Known.{live_range, not_joined, ready_live, ready_places}

-- A THREAD WAITS

-- a test of one wait more
all_more : (p : Wait → Bool) (ws : List Wait) (w : Wait) → list_all p ws ≡ true → p w ≡ true → list_all p (ws ++ w ∷ []) ≡ true
all_more p ws w h e = grind (arith, nat_tests, list_all-append p ws (w ∷ []))

another : (t : ℕ) (r : Reason) (d : Option ℕ) (s : State) → may_join t r s ≡ true → joins_another (record { thread = t; reason = r; deadline = d }) ≡ true
another t (reason.Join q) d s a = grind (arith, nat_tests)
another t reason.Input d s a = refl
another t reason.Sleep d s a = refl
another t (reason.Lock m) d s a = refl
another t (reason.Retake m v) d s a = refl
another t (reason.Condition c m) d s a = refl
another t (reason.Barrier b) d s a = refl
another t (reason.Read l) d s a = refl
another t (reason.Write l) d s a = refl

joined_more : (t q : ℕ) (r : Reason) (s : State) → may_join t r s ≡ true → joiners s q ≤ (if is_joinable (thread_of s q) then 1 else 0) → (if is_reason_for (object.End q) r then 1 else 0) + joiners s q ≤ (if is_joinable (thread_of s q) then 1 else 0)
joined_more t q (reason.Join u) s a h =
    let e : eqb q u ≡ true → is_joinable (thread_of s u) ≡ is_joinable (thread_of s q) = λ x. ap (λ i. is_joinable (thread_of s i)) (sym (eqb-true q u x)) in
    let j : eqb q u ≡ true → joiners s u ≡ joiners s q = λ x. ap (joiners s) (sym (eqb-true q u x)) in
    grind (arith, nat_tests, e, j, not_joined s u)
joined_more t q reason.Input s a h = omega (arith, h)
joined_more t q reason.Sleep s a h = omega (arith, h)
joined_more t q (reason.Lock m) s a h = omega (arith, h)
joined_more t q (reason.Retake m v) s a h = omega (arith, h)
joined_more t q (reason.Condition c m) s a h = omega (arith, h)
joined_more t q (reason.Barrier b) s a h = omega (arith, h)
joined_more t q (reason.Read l) s a h = omega (arith, h)
joined_more t q (reason.Write l) s a h = omega (arith, h)

allowed_deadline : (t : ℕ) (r : Reason) (d : Option ℕ) (s : State) → may_wait t r d s ≡ true → is_deadline_of r d ≡ true
allowed_deadline t r d s a = grind (arith, nat_tests)

allowed_join : (t : ℕ) (r : Reason) (d : Option ℕ) (s : State) → may_wait t r d s ≡ true → may_join t r s ≡ true
allowed_join t r d s a = grind (arith, nat_tests)

allowed_unwind : (t : ℕ) (r : Reason) (d : Option ℕ) (s : State) → may_wait t r d s ≡ true → is_to_unwind r ≡ true → is_unwinding (thread_of s t) ≡ true
allowed_unwind t r d s a u = grind (arith, nat_tests)

-- who unwinds waits to retake a mutex at most once, as it waits once
unwind_more : (t q : ℕ) (r : Reason) (d : Option ℕ) (s : State) → (is_to_unwind r ≡ true → is_unwinding (thread_of s t) ≡ true) → is_waiting s t ≡ false
    → unwind_waits s q ≤ (if is_unwinding (thread_of s q) then 1 else 0) → unwind_waits (blocked t r d s) q ≤ (if is_unwinding (thread_of s q) then 1 else 0)
unwind_more t q r d s u n h =
    let none : eqb q t ≡ true → unwind_waits s q ≡ 0 = λ e. no_unwind q s.waits (rw (eqb-true q t e) n) in
    let mine : eqb q t ≡ true → is_to_unwind r ≡ true → is_unwinding (thread_of s q) ≡ true = λ e k. rw (eqb-true q t e) (u k) in
    let more = count_of-append (is_unwind_of q) s.waits ((record { thread = t; reason = r; deadline = d }) ∷ []) in
    grind (arith, nat_tests, h, none, mine, more)

pub well_formed_blocked : (s : State) (t : ℕ) (r : Reason) (d : Option ℕ) → IsWellFormed s → is_live s t ≡ true → is_waiting s t ≡ false → may_wait t r d s ≡ true → IsWellFormed (blocked t r d s)
well_formed_blocked s t r d h l w a =
    let more : List Wait = (record { thread = t; reason = r; deadline = d }) ∷ [] in
    record {
      size = h.size;
      zero = h.zero;
      harts = length-map s.harts (off t) ∙ h.harts;
      hart_count = h.hart_count;
      idle = λ i k. idle_off t s.harts i (h.idle i k);
      proper = h.proper;
      one_initial = h.one_initial;
      placed = λ q. grind (arith, nat_tests, h.placed q, count_of-append (is_of q) s.waits more, count_of-off t q s.harts, count_of_none (is_of t) s.waits w);
      joined_target = λ q. (let m = joined_more t q r s (allowed_join t r d s a) (h.joined_target q) in let c = count_of-append (is_for (object.End q)) s.waits more in omega arith);
      joined_by_another = all_more joins_another s.waits (record { thread = t; reason = r; deadline = d }) h.joined_by_another (another t r d s (allowed_join t r d s a));
      deadlines = all_more has_proper_deadline s.waits (record { thread = t; reason = r; deadline = d }) h.deadlines (allowed_deadline t r d s a);
      unwinding_waits = λ q. unwind_more t q r d s (allowed_unwind t r d s a) w (h.unwinding_waits q);
      proper_keys = h.proper_keys;
      values = h.values;
    }

-- A WAIT ENDS

pub well_formed_without : (s : State) (t : ℕ) → IsWellFormed s → IsWellFormed (record s { waits = without t s.waits })
well_formed_without s t h = record {
  size = h.size;
  zero = h.zero;
  harts = h.harts;
  hart_count = h.hart_count;
  idle = h.idle;
  proper = h.proper;
  one_initial = h.one_initial;
  placed = λ q. omega (arith, h.placed q, count_of-without (is_of q) t s.waits);
  joined_target = λ q. omega (arith, h.joined_target q, count_of-without (is_for (object.End q)) t s.waits);
  joined_by_another = list_all-without joins_another t s.waits h.joined_by_another;
  deadlines = list_all-without has_proper_deadline t s.waits h.deadlines;
  unwinding_waits = λ q. omega (arith, h.unwinding_waits q, count_of-without (is_unwind_of q) t s.waits);
  proper_keys = h.proper_keys;
  values = h.values;
}

pub well_formed_without_wait : (s : State) (f : Option Wait) → IsWellFormed s → IsWellFormed (record s { waits = without_wait f s.waits })
well_formed_without_wait s None h = h
well_formed_without_wait s (Some w) h = well_formed_without s w.thread h

pub well_formed_without_first : (s : State) (o : Object) → IsWellFormed s → IsWellFormed (record s { waits = without_first o s.waits })
well_formed_without_first s o h = well_formed_without_wait s (first_waiter o s) h

-- A THREAD CHANGES

-- a change that leaves each thread proper that was, and unwinding that unwound, and gives no value under another key
pub record IsChange (f : Live → Live) : Type 0 where
  pub initial : (l : Live) → (f l).initial ≡ l.initial
  pub detached : (l : Live) → (f l).detached ≡ l.detached
  pub proper : (l : Live) → is_proper_live l ≡ true → is_proper_live (f l) ≡ true
  pub unwinding : (l : Live) → is_some l.cancellation.unwinding ≡ true → is_some (f l).cancellation.unwinding ≡ true
  pub values : (keys : KeyTable) (l : Live) → HasValuesOf keys (Some (thread.Live l)) → HasValuesOf keys (Some (thread.Live (f l)))

pub proper_change : (f : Live → Live) → IsChange f → (o : Option Thread) → is_proper_slot o ≡ true → is_proper_slot (change_live f o) ≡ true
proper_change f k None a = refl
proper_change f k (Some (thread.Ended v)) a = refl
proper_change f k (Some (thread.Live l)) a = k.proper l a

pub initial_change : (f : Live → Live) → ((l : Live) → (f l).initial ≡ l.initial) → (o : Option Thread) → is_initial (change_live f o) ≡ is_initial o
initial_change f k None = refl
initial_change f k (Some (thread.Ended v)) = refl
initial_change f k (Some (thread.Live l)) = k l

pub joinable_change : (f : Live → Live) → ((l : Live) → (f l).detached ≡ l.detached) → (o : Option Thread) → is_joinable (change_live f o) ≡ is_joinable o
joinable_change f k None = refl
joinable_change f k (Some (thread.Ended v)) = refl
joinable_change f k (Some (thread.Live l)) = ap (λ b. true && not b) (k l)

unwinding_change : (f : Live → Live) → IsChange f → (o : Option Thread) → is_unwinding o ≡ true → is_unwinding (change_live f o) ≡ true
unwinding_change f k None u = absurd (cc)
unwinding_change f k (Some (thread.Ended v)) u = absurd (cc)
unwinding_change f k (Some (thread.Live l)) u = k.unwinding l u

pub values_change : (keys : KeyTable) (f : Live → Live) → IsChange f → (o : Option Thread) → HasValuesOf keys o → HasValuesOf keys (change_live f o)
values_change keys f k None v = v
values_change keys f k (Some (thread.Ended x)) v = v
values_change keys f k (Some (thread.Live l)) v = k.values keys l v

either : (P : Option Thread → Type 0) (b : Bool) (x y : Option Thread) → P x → P y → P (cond b x y)
either P true x y p q = p
either P false x y p q = q

-- as many as there may be, where there may be no fewer
pub still_at_most : (n : ℕ) (b c : Bool) → (b ≡ true → c ≡ true) → n ≤ (if b then 1 else 0) → n ≤ (if c then 1 else 0)
still_at_most n true c k h = subst (λ (x : Bool). n ≤ (if x then 1 else 0)) (sym (k refl)) h
still_at_most n false true k h = omega (arith, h)
still_at_most n false false k h = h

pub unwinds_on : (s : State) (f : Live → Live) (k : IsChange f) (q : ℕ) → IsWellFormed s → unwind_waits s q ≤ (if is_unwinding (change_live f (thread_of s q)) then 1 else 0)
unwinds_on s f k q h = still_at_most (unwind_waits s q) (is_unwinding (thread_of s q)) (is_unwinding (change_live f (thread_of s q))) (unwinding_change f k (thread_of s q)) (h.unwinding_waits q)

pub well_formed_change : (s : State) (f : Live → Live) (t : ℕ) → IsChange f → IsWellFormed s → IsWellFormed (record s { threads = change_thread f t s.threads })
well_formed_change s f t k h =
    let initial : (q : ℕ) → is_initial (option_flatten (slice_get (change_thread f t s.threads) q)) ≡ is_initial (thread_of s q) = λ q. kept_at is_initial f s.threads t q (initial_change f k.initial) in
    record {
      size = length-set s.threads t (change_live f (thread_of s t)) ∙ h.size;
      zero = changed_at f s.threads t 0 ∙ either (λ o. o ≡ None) (eqb t 0) (change_live f (thread_of s 0)) (thread_of s 0) (ap (change_live f) h.zero) h.zero;
      harts = h.harts;
      hart_count = h.hart_count;
      idle = h.idle;
      proper = λ q. rw (changed_at f s.threads t q) (either (λ o. is_proper_slot o ≡ true) (eqb t q) (change_live f (thread_of s q)) (thread_of s q) (proper_change f k (thread_of s q) (h.proper q)) (h.proper q));
      one_initial = λ p q a b. h.one_initial p q (sym (initial p) ∙ a) (sym (initial q) ∙ b);
      placed = λ q. subst (λ (b : Bool). places s q ≤ (if b then 1 else 0)) (sym (kept_at is_live_thread f s.threads t q (live_change f))) (h.placed q);
      joined_target = λ q. subst (λ (b : Bool). joiners s q ≤ (if b then 1 else 0)) (sym (kept_at is_joinable f s.threads t q (joinable_change f k.detached))) (h.joined_target q);
      joined_by_another = h.joined_by_another;
      deadlines = h.deadlines;
      unwinding_waits = λ q. rw (changed_at f s.threads t q) (either (λ o. unwind_waits s q ≤ (if is_unwinding o then 1 else 0)) (eqb t q) (change_live f (thread_of s q)) (thread_of s q) (unwinds_on s f k q h) (h.unwinding_waits q));
      proper_keys = h.proper_keys;
      values = λ q. subst (HasValuesOf s.keys) (sym (changed_at f s.threads t q)) (either (HasValuesOf s.keys) (eqb t q) (change_live f (thread_of s q)) (thread_of s q) (values_change s.keys f k (thread_of s q) (h.values q)) (h.values q));
    }

pub changes_word : (k v : ℕ) → IsChange (with_word k v)
changes_word k v = record { initial = λ l. refl; detached = λ l. refl; proper = λ l a. a; unwinding = λ l u. u; values = λ keys l v. v }

pub well_formed_word : (s : State) (t k v : ℕ) → IsWellFormed s → IsWellFormed (record s { threads = change_thread (with_word k v) t s.threads })
well_formed_word s t k v h = well_formed_change s (with_word k v) t (changes_word k v) h

proper_regs : (r : Registers) (l : Live) → is_aligned r ≡ true → is_proper_live l ≡ true → is_proper_live (with_regs r l) ≡ true
proper_regs r l a h = grind (arith, nat_tests, a, h)

pub changes_regs : (r : Registers) → is_aligned r ≡ true → IsChange (with_regs r)
changes_regs r a = record { initial = λ l. refl; detached = λ l. refl; proper = λ l h. proper_regs r l a h; unwinding = λ l u. u; values = λ keys l v. v }

-- AN ID STANDS FOR ANOTHER THREAD, OR FOR NONE

-- what is asked of the slots, once one was written
written : (f : Option Thread → ℕ → Type 0) → (t q : ℕ) (y o : Option Thread) → (t ≡ q → f y q) → f o q → f (cond (eqb t q) y o) q
written f t q y o a b =
    elim (eqb t q) as (λ c. eqb t q ≡ c → f (cond c y o) q) [
      | true ↦ λ e. a (eqb-true t q e)
      | false ↦ λ e. b
    ] refl

-- what stands for an id, if it holds what the waits and harts ask of it
pub record MayStand (s : State) (t : ℕ) (y : Option Thread) : Type 0 where
  pub placed : places s t ≤ (if is_live_thread y then 1 else 0)
  pub joined : joiners s t ≤ (if is_joinable y then 1 else 0)
  pub unwinding : unwind_waits s t ≤ (if is_unwinding y then 1 else 0)
  pub initial : (q : ℕ) → is_initial y ≡ true → is_initial (thread_of s q) ≡ true → t ≡ q
  pub proper : is_proper_slot y ≡ true
  pub values : HasValuesOf s.keys y

-- at most one thread is the initial one, where that is so of the others and of what is written
sole : (s : State) (t : ℕ) (y : Option Thread) → IsWellFormed s → MayStand s t y → (p q : ℕ) → is_initial (cond (eqb t p) y (thread_of s p)) ≡ true → is_initial (cond (eqb t q) y (thread_of s q)) ≡ true → p ≡ q
sole s t y h m p q =
    written (λ o i. is_initial o ≡ true → is_initial (cond (eqb t q) y (thread_of s q)) ≡ true → i ≡ q) t p y (thread_of s p)
    (λ e. written (λ o j. is_initial y ≡ true → is_initial o ≡ true → p ≡ j) t q y (thread_of s q) (λ f _ _. sym e ∙ f) (λ b c. sym e ∙ m.initial q b c))
    (written (λ o j. is_initial (thread_of s p) ≡ true → is_initial o ≡ true → p ≡ j) t q y (thread_of s q) (λ f b c. sym (m.initial p c b) ∙ f) (λ b c. h.one_initial p q b c))

pub well_formed_slot : (s : State) (t : ℕ) (y : Option Thread) → IsWellFormed s → 0 < t → t ≤ 64 → MayStand s t y → IsWellFormed (with_slot t y s)
well_formed_slot s t y h n l m =
    let w : t < length s.threads = (let z = h.size in omega arith) in
    let at : (q : ℕ) → thread_of (with_slot t y s) q ≡ cond (eqb t q) y (thread_of s q) = λ q. slot_at s.threads t q y w in
    record {
      size = length-set s.threads t y ∙ h.size;
      zero = at 0 ∙ written (λ o p. o ≡ None) t 0 y (thread_of s 0) (λ e. absurd (omega arith)) h.zero;
      harts = h.harts;
      hart_count = h.hart_count;
      idle = h.idle;
      proper = λ q. rw (at q) (written (λ o p. is_proper_slot o ≡ true) t q y (thread_of s q) (λ e. m.proper) (h.proper q));
      one_initial = λ p q b c. sole s t y h m p q (rw (at p) at b) (rw (at q) at c);
      placed = λ q. rw (at q) (written (λ o p. places s p ≤ (if is_live_thread o then 1 else 0)) t q y (thread_of s q) (λ e. subst (λ p. places s p ≤ (if is_live_thread y then 1 else 0)) e m.placed) (h.placed q));
      joined_target = λ q. rw (at q) (written (λ o p. joiners s p ≤ (if is_joinable o then 1 else 0)) t q y (thread_of s q) (λ e. subst (λ p. joiners s p ≤ (if is_joinable y then 1 else 0)) e m.joined) (h.joined_target q));
      joined_by_another = h.joined_by_another;
      deadlines = h.deadlines;
      unwinding_waits = λ q. rw (at q) (written (λ o p. unwind_waits s p ≤ (if is_unwinding o then 1 else 0)) t q y (thread_of s q) (λ e. subst (λ p. unwind_waits s p ≤ (if is_unwinding y then 1 else 0)) e m.unwinding) (h.unwinding_waits q));
      proper_keys = h.proper_keys;
      values = λ q. subst (HasValuesOf s.keys) (sym (at q)) (written (λ o p. HasValuesOf s.keys o) t q y (thread_of s q) (λ e. m.values) (h.values q));
    }

-- what is nothing is at most anything
none_at_most : (m n : ℕ) → m ≡ 0 → m ≤ n
none_at_most m n e = omega (arith, e)

no_unwind_waits : (s : State) (t : ℕ) → places s t ≡ 0 → unwind_waits s t ≡ 0
no_unwind_waits s t e = (let l = unwind_of t s.waits in omega (arith, l, e))

-- anything proper may stand for an id at which nobody waits or is on a hart, and which nobody joins
pub may_stand_free : (s : State) (t : ℕ) (y : Option Thread) → places s t ≡ 0 → joiners s t ≡ 0 → ((q : ℕ) → is_initial y ≡ true → is_initial (thread_of s q) ≡ true → t ≡ q) → is_proper_slot y ≡ true → HasValuesOf s.keys y → MayStand s t y
may_stand_free s t y f j i p v = record {
  placed = none_at_most (places s t) (if is_live_thread y then 1 else 0) f;
  joined = none_at_most (joiners s t) (if is_joinable y then 1 else 0) j;
  unwinding = none_at_most (unwind_waits s t) (if is_unwinding y then 1 else 0) (no_unwind_waits s t f);
  initial = i;
  proper = p;
  values = v;
}

-- A THREAD THAT HAS NOT ENDED changes

-- where what it becomes may stand for its id
pub well_formed_live : (s : State) (t : ℕ) (f : Live → Live) → IsWellFormed s → is_live s t ≡ true → MayStand s t (change_live f (thread_of s t)) → IsWellFormed (record s { threads = change_thread f t s.threads })
well_formed_live s t f h l m = (let r = live_range s t h l in well_formed_slot s t (change_live f (thread_of s t)) h r.0 r.1 m)

module _ (s : State) (t : ℕ) (f : Live → Live) (h : IsWellFormed s) (i : (l : Live) → (f l).initial ≡ l.initial) (p : is_proper_slot (change_live f (thread_of s t)) ≡ true)
    (u : is_unwinding (thread_of s t) ≡ true → is_unwinding (change_live f (thread_of s t)) ≡ true) (v : HasValuesOf s.keys (change_live f (thread_of s t))) where
  may_stand_changed : joiners s t ≤ (if is_joinable (change_live f (thread_of s t)) then 1 else 0) → MayStand s t (change_live f (thread_of s t))
  may_stand_changed j = record {
    placed = subst (λ (b : Bool). places s t ≤ (if b then 1 else 0)) (sym (live_change f (thread_of s t))) (h.placed t);
    joined = j;
    unwinding = still_at_most (unwind_waits s t) (is_unwinding (thread_of s t)) (is_unwinding (change_live f (thread_of s t))) u (h.unwinding_waits t);
    initial = λ q x. h.one_initial t q (sym (initial_change f i (thread_of s t)) ∙ x);
    proper = p;
    values = v;
  }

  pub may_stand_joinable : ((l : Live) → (f l).detached ≡ l.detached) → MayStand s t (change_live f (thread_of s t))
  may_stand_joinable d = may_stand_changed (subst (λ (b : Bool). joiners s t ≤ (if b then 1 else 0)) (sym (joinable_change f d (thread_of s t))) (h.joined_target t))

-- a change that has no part in this: of how a thread is cancelled, of its handlers, or of whether it is detached
pub same_unwinding : (f : Live → Live) → ((l : Live) → (f l).cancellation ≡ l.cancellation) → (o : Option Thread) → is_unwinding o ≡ true → is_unwinding (change_live f o) ≡ true
same_unwinding f k None u = absurd (cc)
same_unwinding f k (Some (thread.Ended v)) u = absurd (cc)
same_unwinding f k (Some (thread.Live l)) u = ap (λ c. is_some c.unwinding) (k l) ∙ u

pub same_values : (keys : KeyTable) (f : Live → Live) → ((l : Live) → (f l).specific ≡ l.specific) → (o : Option Thread) → HasValuesOf keys o → HasValuesOf keys (change_live f o)
same_values keys f k None v = v
same_values keys f k (Some (thread.Ended x)) v = v
same_values keys f k (Some (thread.Live l)) v = λ i e. ap (value_under i) (k l) ∙ v i e

-- a thread that nobody joins is detached
proper_detached : (o : Option Thread) → is_proper_slot o ≡ true → is_proper_slot (change_live detached o) ≡ true
proper_detached None a = refl
proper_detached (Some (thread.Ended v)) a = refl
proper_detached (Some (thread.Live l)) a = a

pub well_formed_detached : (s : State) (t : ℕ) → IsWellFormed s → is_live s t ≡ true → joiners s t ≡ 0 → IsWellFormed (record s { threads = change_thread detached t s.threads })
well_formed_detached s t h l n =
    well_formed_live s t detached h l
    (may_stand_changed s t detached h (λ x. refl) (proper_detached (thread_of s t) (h.proper t)) (same_unwinding detached (λ x. refl) (thread_of s t))
    (same_values s.keys detached (λ x. refl) (thread_of s t) (h.values t))
    (none_at_most (joiners s t) (if is_joinable (change_live detached (thread_of s t)) then 1 else 0) n))

-- a thread can be cancelled otherwise
proper_cancellation : (c : Cancellation) (o : Option Thread) → is_consistent c ≡ true → (is_unwinding o ≡ true → is_some c.unwinding ≡ true) → is_proper_slot o ≡ true → is_proper_slot (change_live (with_cancellation c) o) ≡ true
proper_cancellation c None k u a = refl
proper_cancellation c (Some (thread.Ended v)) k u a = refl
proper_cancellation c (Some (thread.Live l)) k u a = grind (arith, nat_tests, k, u, a)

unwinding_cancellation : (c : Cancellation) (o : Option Thread) → (is_unwinding o ≡ true → is_some c.unwinding ≡ true) → is_unwinding o ≡ true → is_unwinding (change_live (with_cancellation c) o) ≡ true
unwinding_cancellation c None k u = absurd (cc)
unwinding_cancellation c (Some (thread.Ended v)) k u = absurd (cc)
unwinding_cancellation c (Some (thread.Live l)) k u = k u

pub well_formed_cancellation : (s : State) (t : ℕ) (c : Cancellation) → IsWellFormed s → is_live s t ≡ true → is_consistent c ≡ true → (is_unwinding (thread_of s t) ≡ true → is_some c.unwinding ≡ true) → IsWellFormed (with_cancellation_of t c s)
well_formed_cancellation s t c h l k u =
    well_formed_live s t (with_cancellation c) h l
    (may_stand_joinable s t (with_cancellation c) h (λ x. refl) (proper_cancellation c (thread_of s t) k u (h.proper t)) (unwinding_cancellation c (thread_of s t) u)
    (same_values s.keys (with_cancellation c) (λ x. refl) (thread_of s t) (h.values t)) (λ x. refl))

-- HANDLERS

proper_pushed : (n : Handler) (o : Option Thread) → is_aligned_handler n ≡ true → length (handlers_of o) < 16 → is_proper_slot o ≡ true → is_proper_slot (change_live (pushing n) o) ≡ true
proper_pushed n None a r h = refl
proper_pushed n (Some (thread.Ended v)) a r h = refl
proper_pushed n (Some (thread.Live l)) a r h =
    let hs = l.handlers.items in
    grind (arith, nat_tests, a, r, h, list_all-append is_aligned_handler hs (n ∷ []), length-append hs (n ∷ []))

-- a thread has one handler more
pub well_formed_pushed : (s : State) (t : ℕ) (n : Handler) → IsWellFormed s → is_live s t ≡ true → is_aligned_handler n ≡ true → length (handlers_of (thread_of s t)) < 16 → IsWellFormed (pushed n t s)
well_formed_pushed s t n h l a r =
    well_formed_live s t (pushing n) h l
    (may_stand_joinable s t (pushing n) h (λ x. refl) (proper_pushed n (thread_of s t) a r (h.proper t)) (same_unwinding (pushing n) (λ x. refl) (thread_of s t))
    (same_values s.keys (pushing n) (λ x. refl) (thread_of s t) (h.values t)) (λ x. refl))

all_take : {X : Type 0} (p : X → Bool) (n : ℕ) (xs : List X) → list_all p xs ≡ true → list_all p (take n xs) ≡ true
all_take p zero xs h = refl
all_take p (suc n) [] h = refl
all_take p (suc n) (x ∷ xs) h = grind (arith, nat_tests, all_take p n xs, h)

few_take : {X : Type 0} (n : ℕ) (xs : List X) → length (take n xs) ≤ length xs
few_take zero xs = omega arith
few_take (suc n) [] = omega arith
few_take (suc n) (x ∷ xs) = (let r = few_take n xs in omega (arith, r))

proper_popped : (l : Live) → is_proper_live l ≡ true → is_proper_live (popping l) ≡ true
proper_popped l h =
    let hs = l.handlers.items in
    let a = all_take is_aligned_handler (length hs - 1) hs in
    grind (arith, nat_tests, h, a, few_take (length hs - 1) hs)

-- a thread has its newest handler no more
pub changes_popping : IsChange popping
changes_popping = record { initial = λ l. refl; detached = λ l. refl; proper = proper_popped; unwinding = λ l u. u; values = λ keys l v. v }

proper_entered : (back : ℕ) (n : Handler) (l : Live) → is_aligned_handler n ≡ true → is_proper_live l ≡ true → is_proper_live (entering back n l) ≡ true
proper_entered back n l a h = grind (arith, nat_tests, a, h)

-- a thread goes to the routine of a handler
pub changes_entering : (back : ℕ) (n : Handler) → is_aligned_handler n ≡ true → IsChange (entering back n)
changes_entering back n a = record { initial = λ l. refl; detached = λ l. refl; proper = λ l h. proper_entered back n l a h; unwinding = λ l u. u; values = λ keys l v. v }

-- the newest handler's routine is a multiple of 4
aligned_at : (p : Handler → Bool) (hs : List Handler) (i : ℕ) → list_all p hs ≡ true → IfSome (slice_get hs i) (λ n. p n ≡ true)
aligned_at p [] i h = tt
aligned_at p (x ∷ hs) zero h = grind (arith, nat_tests, h)
aligned_at p (x ∷ hs) (suc i) h = aligned_at p hs i (grind (arith, nat_tests, h))

pub aligned_newest : (l : Live) → is_proper_live l ≡ true → IfSome (newest l.handlers.items) (λ n. is_aligned_handler n ≡ true)
aligned_newest l h = aligned_at is_aligned_handler l.handlers.items (length l.handlers.items - 1) (grind (arith, nat_tests, h))

-- A THREAD GOES OFF ITS HART, OR ONTO ONE

pub well_formed_off : (s : State) (t : ℕ) → IsWellFormed s → IsWellFormed (off_hart t s)
well_formed_off s t h = record {
  size = h.size;
  zero = h.zero;
  harts = length-map s.harts (off t) ∙ h.harts;
  hart_count = h.hart_count;
  idle = λ i l. idle_off t s.harts i (h.idle i l);
  proper = h.proper;
  one_initial = h.one_initial;
  placed = λ q. grind (arith, nat_tests, h.placed q, count_of-off t q s.harts);
  joined_target = h.joined_target;
  joined_by_another = h.joined_by_another;
  deadlines = h.deadlines;
  unwinding_waits = h.unwinding_waits;
  proper_keys = h.proper_keys;
  values = h.values;
}

placed_count : (s : State) (t q : ℕ) (hs : List (Option ℕ)) → is_live s t ≡ true → places s t ≡ 0 → places s q ≤ (if is_live s q then 1 else 0) → count_of (holds q) hs ≤ cond (eqb t q) 1 0 + count_of (holds q) s.harts → count_of (is_of q) s.waits + count_of (holds q) hs ≤ (if is_live s q then 1 else 0)
placed_count s t q hs v p k c =
    let r : eqb t q ≡ true → places s q ≡ 0 = λ e. ap (places s) (sym (eqb-true t q e)) ∙ p in
    let m : eqb t q ≡ true → is_live s q ≡ true = λ e. ap (is_live s) (sym (eqb-true t q e)) ∙ v in
    grind (arith, nat_tests, k, c, r, m)

pub well_formed_placed : (s : State) (h t : ℕ) → IsWellFormed s → h < s.hart_count → is_ready s t ≡ true → IsWellFormed (placed_on h t s)
well_formed_placed s h t k l r =
    let w : h < length s.harts = (let a = k.harts in let b = k.hart_count in omega arith) in
    record {
      size = k.size;
      zero = k.zero;
      harts = length-set s.harts h (Some t) ∙ k.harts;
      hart_count = k.hart_count;
      idle = λ i m. idle_put s.harts h i t (omega arith) (k.idle i m);
      proper = k.proper;
      one_initial = k.one_initial;
      placed = λ q. placed_count s t q (slice_set s.harts h (Some t)) (ready_live s t r) (ready_places s t r) (k.placed q) (count_of-put s.harts h t q w);
      joined_target = k.joined_target;
      joined_by_another = k.joined_by_another;
      deadlines = k.deadlines;
      unwinding_waits = k.unwinding_waits;
      proper_keys = k.proper_keys;
      values = k.values;
    }

-- A PROGRAM BEGINS

pub well_formed_empty : (keys : KeyTable) (harts : ℕ) → are_proper_keys keys ≡ true → harts ≤ 8 → IsWellFormed (empty keys harts)
well_formed_empty keys harts p l = record {
  size = refl;
  zero = refl;
  harts = refl;
  hart_count = l;
  idle = λ h _. empty_slot {X = ℕ} 8 h;
  proper = λ t. ap is_proper_slot (empty_slot {X = Thread} 65 t);
  one_initial = λ t q a b. absurd (let e = ap is_initial (empty_slot {X = Thread} 65 t) in cc);
  placed = λ t. let e = none_held 8 t in omega arith;
  joined_target = λ t. omega arith;
  joined_by_another = refl;
  deadlines = refl;
  unwinding_waits = λ t. omega arith;
  proper_keys = p;
  values = λ t. subst (HasValuesOf keys) (sym (empty_slot {X = Thread} 65 t)) (λ k _. no_value k);
}

-- an empty table has no initial thread
pub initial_in_empty : (s : State) (keys : KeyTable) (harts t : ℕ) → s ≡ empty keys harts → is_initial (thread_of s t) ≡ true → 1 ≡ t
initial_in_empty s keys harts t e i =
    let none : is_initial (thread_of s t) ≡ false = ap (λ z. is_initial (thread_of z t)) e ∙ ap is_initial (empty_slot {X = Thread} 65 t) in
    absurd (cc)

pub well_formed_fresh : (stack harts : ℕ) → harts ≤ 8 → IsWellFormed (fresh stack harts)
well_formed_fresh stack harts l =
    let first : Option Thread = Some (first_of_program stack) in
    let none = none_held 8 1 in
    well_formed_slot (empty no_keys harts) 1 first (well_formed_empty no_keys harts refl l) (omega arith) (omega arith)
    (may_stand_free (empty no_keys harts) 1 first (omega (arith, none)) refl (λ q i j. initial_in_empty (empty no_keys harts) no_keys harts q refl j) refl (λ k _. no_value k))
