-- The queue of an object stays as it is, whatever is called on other objects, read, or ended by time.
use Rattle.std.proofs.Common.{◌≡◌, ℕ, nat_lt, not, Bool, true, false, ◌+◌, ◌||◌, ◌==◌, ◌%◌, length, arith, Option, Some, None, is_some, List, [], ◌∷◌, drop, slice_get, refl, sym, ap, ◌∙◌}
use Rattle.std.specs.List.{find, filter}
use Rattle.ckrt_thread.specs.declared.records.Thread.{Thread}
use Rattle.ckrt_thread.specs.declared.records.Thread.TheVariants as thread
use Rattle.ckrt_thread.specs.declared.records.Wait.{Wait}
use Rattle.ckrt_thread.specs.declared.records.Reason.{Reason}
use Rattle.ckrt_thread.specs.declared.records.Reason.TheVariants as reason
use Rattle.ckrt_thread.specs.declared.records.RetakeResult.{RetakeResult}
use Rattle.ckrt_thread.specs.declared.records.RetakeResult.TheVariants as retake
use Rattle.ckrt_thread.specs.declared.records.Object.{Object}
use Rattle.ckrt_thread.specs.declared.records.Object.TheVariants as object
use Rattle.ckrt_thread.specs.Waits.{is_for, is_reason_for, is_of, without, is_deadline_of, has_proper_deadline}
use Rattle.ckrt_thread.specs.State.{State, IsWellFormed, thread_of, is_joined, free_place, first_waiter, blocked, woken, all_woken}
use Rattle.ckrt_thread.specs.Rows.{After, create_at, create_row, join_at, join_row, detach_at, detach_row}
use Rattle.ckrt_thread.specs.Granting.{queue_of}
use Rattle.ckrt_thread.specs.Unwinding.{next_handler}
use Rattle.ckrt_thread.proofs.Known.{waits_at_most_once}
use Rattle.ckrt_thread.proofs.Grants.{first_of_queue, queue_rest}
use Rattle.ckrt_objects.specs.declared.address_map.Entry.{Entry}
use Rattle.ckrt_objects.specs.AddressMap.{lookup}
use Rattle.ckrt_objects.proofs.Granting.{well_formed_woken, granted_elsewhere}
use Rattle.ckrt_objects.proofs.Obtained.{PassesNoJoiner}
use Rattle.ckrt_objects.proofs.Waits.{found_holds, found_all, queue_elsewhere, queue_other}
use Rattle.ckrt_mutex.specs.declared.records.Mutex.{Mutex}
use Rattle.ckrt_mutex.specs.Mutex.{free}
use Rattle.ckrt_mutex.specs.Rows as mutex
use Rattle.ckrt_cond.specs.Rows as condition
use Rattle.ckrt_cond.proofs.Kept as kept_conditions
use Rattle.ckrt_cond.proofs.Elsewhere.{resume_elsewhere, signal_elsewhere, broadcast_elsewhere}
use Rattle.ckrt_cancel.specs.Rows.{begin_unwind, act_on_request, request_row}
use Rattle.ckrt_cancel.proofs.Kept as kept_cancel
use Rattle.ckrt_barrier.specs.declared.barrier.Barrier.{Barrier}
use Rattle.ckrt_barrier.specs.Rows as barrier
use Rattle.ckrt_barrier.specs.WellFormed as barrier_rules
use Rattle.ckrt_barrier.proofs.WellFormed as barriers
use Rattle.ckrt_rwlock.specs.declared.records.RwLock.{RwLock}
use Rattle.ckrt_rwlock.specs.WellFormed as lock_rules
use Rattle.ckrt_rwlock.proofs.WellFormed as locks
use Rattle.ckrt_calls.specs.Table.{feed, feed_first}
use Rattle.ckrt_calls.proofs.Choices.{choice}
use Rattle.ckrt_calls.proofs.MutexRows as kept_mutexes

-- who waits for input, time, a thread, a mutex or a condition does not wait for the object
pub record IsApart (o : Object) : Type 0 where
  pub input : is_reason_for o reason.Input ≡ false
  pub sleep : is_reason_for o reason.Sleep ≡ false
  pub join : (i : ℕ) → is_reason_for o (reason.Join i) ≡ false
  pub lock : (a : ℕ) → is_reason_for o (reason.Lock a) ≡ false
  pub retake : (a : ℕ) (v : RetakeResult) → is_reason_for o (reason.Retake a v) ≡ false
  pub condition : (c a : ℕ) → is_reason_for o (reason.Condition c a) ≡ false

-- the queue of each such object is the same
abbrev pub SameQueues : State → State → Type 0
SameQueues s z = (o : Object) → IsApart o → queue_of o z ≡ queue_of o s

pub barrier_apart : (b : ℕ) → IsApart (object.Barrier b)
barrier_apart b = record { input = refl; sleep = refl; join = λ i. refl; lock = λ a. refl; retake = λ a v. refl; condition = λ c a. refl }

pub lock_apart : (l : ℕ) → IsApart (object.RwLock l)
lock_apart l = record { input = refl; sleep = refl; join = λ i. refl; lock = λ a. refl; retake = λ a v. refl; condition = λ c a. refl }

-- the objects of input, threads, mutexes and conditions
abbrev is_basic : Object → Bool
is_basic object.Input = true
is_basic (object.End i) = true
is_basic (object.Mutex a) = true
is_basic (object.Condition c) = true
is_basic (object.Barrier b) = false
is_basic (object.RwLock l) = false

module _ (o : Object) (p : IsApart o) where
  for_another : (q : Object) (r : Reason) → is_basic q ≡ true → is_reason_for q r ≡ true → is_reason_for o r ≡ false
  for_another q reason.Input n h = p.input
  for_another q reason.Sleep n h = p.sleep
  for_another q (reason.Join i) n h = p.join i
  for_another q (reason.Lock m) n h = p.lock m
  for_another q (reason.Retake m v) n h = p.retake m v
  for_another q (reason.Condition c m) n h = p.condition c m
  for_another object.Input (reason.Barrier b) n h = absurd (cc)
  for_another (object.End i) (reason.Barrier b) n h = absurd (cc)
  for_another (object.Mutex a) (reason.Barrier b) n h = absurd (cc)
  for_another (object.Condition c) (reason.Barrier b) n h = absurd (cc)
  for_another (object.Barrier e) (reason.Barrier b) n h = absurd (cc)
  for_another (object.RwLock e) (reason.Barrier b) n h = absurd (cc)
  for_another object.Input (reason.Read l) n h = absurd (cc)
  for_another (object.End i) (reason.Read l) n h = absurd (cc)
  for_another (object.Mutex a) (reason.Read l) n h = absurd (cc)
  for_another (object.Condition c) (reason.Read l) n h = absurd (cc)
  for_another (object.Barrier e) (reason.Read l) n h = absurd (cc)
  for_another (object.RwLock e) (reason.Read l) n h = absurd (cc)
  for_another object.Input (reason.Write l) n h = absurd (cc)
  for_another (object.End i) (reason.Write l) n h = absurd (cc)
  for_another (object.Mutex a) (reason.Write l) n h = absurd (cc)
  for_another (object.Condition c) (reason.Write l) n h = absurd (cc)
  for_another (object.Barrier e) (reason.Write l) n h = absurd (cc)
  for_another (object.RwLock e) (reason.Write l) n h = absurd (cc)

  -- SMALL CHANGES

  abbrev Same : State → State → Type 0
  Same s z = queue_of o z ≡ queue_of o s

  -- a wait begins
  pub begun : (t : ℕ) (r : Reason) (d : Option ℕ) (s : State) → is_reason_for o r ≡ false → Same s (blocked t r d s)
  begun t r d s n = queue_other (is_for o) s.waits (record { thread = t; reason = r; deadline = d }) n

  -- a wait that was found ends
  found_ends : (f : Wait → Bool) (w : Wait) (s : State) → IsWellFormed s → find f s.waits ≡ Some w → is_for o w ≡ false → filter (is_for o) (without w.thread s.waits) ≡ filter (is_for o) s.waits
  found_ends f w s k e n = queue_elsewhere f (is_for o) s.waits w e n (waits_at_most_once s w.thread k)

  -- the first wait for another object ends
  first_ends : (q : Object) (w : Wait) (s : State) → is_basic q ≡ true → IsWellFormed s → first_waiter q s ≡ Some w → filter (is_for o) (without w.thread s.waits) ≡ filter (is_for o) s.waits
  first_ends q w s n k e = found_ends (is_for q) w s k e (for_another q w.reason n (found_holds (is_for q) s.waits w e))

  -- THE ROWS OF THREADS

  abbrev SameWaits : State → After → Type 0
  SameWaits s r = r.threads.waits ≡ s.waits

  create_waits : (i : Option ℕ) (t a b c : ℕ) (d : Bool) (s : State) → SameWaits s (create_at i t a b c d s)
  create_waits None t a b c d s = refl
  create_waits (Some i) t a b c d s = refl

  pub create : (t a b c d : ℕ) (s : State) → Same s (create_row t a b c d s).threads
  create t a b c d s = ap (λ ws. filter (is_for o) ws) (choice (SameWaits s) (not (a % 4 == 0) || nat_lt 1 d) _ _ refl (create_waits (free_place s) t a b c (d == 1) s))

  detach_waits : (e : Option Thread) (i : ℕ) (s : State) → SameWaits s (detach_at e i s)
  detach_waits None i s = refl
  detach_waits (Some (thread.Ended v)) i s = refl
  detach_waits (Some (thread.Live l)) i s = choice (SameWaits s) (l.detached || is_joined i s) _ _ refl refl

  pub detach : (i : ℕ) (s : State) → Same s (detach_row i s).threads
  detach i s = ap (λ ws. filter (is_for o) ws) (detach_waits (thread_of s i) i s)

  join_at_end : (e : Option Thread) (t i : ℕ) (s : State) → Same s (join_at e t i s).threads
  join_at_end None t i s = refl
  join_at_end (Some (thread.Ended v)) t i s = refl
  join_at_end (Some (thread.Live l)) t i s = choice (λ (r : After). Same s r.threads) (l.detached || is_joined i s) _ _ refl (begun t (reason.Join i) None s (p.join i))

  pub join : (t i : ℕ) (s : State) → Same s (join_row t i s).threads
  join t i s = choice (λ (r : After). Same s r.threads) (i == t) _ _ refl (join_at_end (thread_of s i) t i s)

  -- UNWINDING: who joins the thread may wait no more

  joins_another_object : PassesNoJoiner (is_for o)
  joins_another_object t w h = for_another (object.End t) w.reason refl h

  pub next : (t : ℕ) (s : State) → IsWellFormed s → Same s (next_handler t s)
  next t s k = kept_cancel.queue_next (is_reason_for o) p.input p.sleep p.join p.condition p.retake t s k

  pub begin : (t v : ℕ) (s : State) → IsWellFormed s → Same s (begin_unwind t v s)
  begin t v s k = kept_cancel.queue_begin_unwind (is_reason_for o) p.input p.sleep p.join p.condition p.retake t v s k

  pub act : (t : ℕ) (s : State) → IsWellFormed s → Same s (act_on_request t s)
  act t s k = kept_cancel.queue_act_on_request (is_reason_for o) p.input p.sleep p.join p.condition p.retake t s k

  pub request : (id : ℕ) (s : State) (ms : List (Entry Mutex)) → IsWellFormed s → Same s (request_row id s ms).threads
  request id s ms k = kept_cancel.queue_request (is_reason_for o) p.input p.sleep p.join p.condition p.retake id s ms k

  -- THE ROWS OF MUTEXES

  pub mutex_init : (a k : ℕ) (s : State) (ms : List (Entry Mutex)) → Same s (mutex.init_row a k s ms).threads
  mutex_init a k s ms = kept_mutexes.kept_init (Same s) a k s ms refl

  pub mutex_destroy : (a : ℕ) (s : State) (ms : List (Entry Mutex)) → Same s (mutex.destroy_row a s ms).threads
  mutex_destroy a s ms = kept_mutexes.kept_destroy (Same s) a s ms refl

  pub lock : (t a : ℕ) (s : State) (ms : List (Entry Mutex)) → Same s (mutex.lock_row t a s ms).threads
  lock t a s ms = kept_mutexes.kept_lock (Same s) t a s ms (begun t (reason.Lock a) None s (p.lock a)) refl

  pub timedlock : (t a d clock : ℕ) (s : State) (ms : List (Entry Mutex)) → Same s (mutex.timedlock_row t a d clock s ms).threads
  timedlock t a d clock s ms = kept_mutexes.kept_timedlock (Same s) t a d clock s ms (λ _. begun t (reason.Lock a) (Some d) s (p.lock a)) refl

  pub trylock : (t a : ℕ) (s : State) (ms : List (Entry Mutex)) → Same s (mutex.trylock_row t a s ms).threads
  trylock t a s ms = kept_mutexes.kept_trylock (Same s) t a s ms refl

  retaken : (t a : ℕ) (s : State) (ms : List (Entry Mutex)) → Same s (mutex.retake_row t a retake.TimedOut s ms).threads
  retaken t a s ms = kept_mutexes.kept_retake (Same s) t a retake.TimedOut s ms refl (begun t (reason.Retake a retake.TimedOut) None s (p.retake a retake.TimedOut))

  pub unlock : (t a : ℕ) (s : State) (ms : List (Entry Mutex)) → IsWellFormed s → Same s (mutex.unlock_row t a s ms).threads
  unlock t a s ms k =
      kept_mutexes.kept_unlock (Same s) t a s ms
      (λ i. granted_elsewhere (mutex.mutex_rule a) (is_for o) (λ w h. for_another (object.Mutex a) w.reason refl h) joins_another_object (free i) s k) refl

  -- THE ROWS OF CONDITIONS

  pub condition_init : (c : ℕ) (s : State) (ms : List (Entry Mutex)) → Same s (condition.init_row c s ms).threads
  condition_init c s ms = kept_conditions.kept_init (Same s) c s ms refl

  pub condition_destroy : (c : ℕ) (s : State) (ms : List (Entry Mutex)) → Same s (condition.destroy_row c s ms).threads
  condition_destroy c s ms = kept_conditions.kept_destroy (Same s) c s ms refl

  pub wait : (t c a : ℕ) (s : State) (ms : List (Entry Mutex)) → IsWellFormed s → Same s (condition.wait_row t c a s ms).threads
  wait t c a s ms k = kept_conditions.kept_wait (Same s) t c a s ms (λ z i. begun t (reason.Condition c a) None z (p.condition c a) ∙ i) (unlock t a s ms k) refl

  pub timedwait : (t c a d clock : ℕ) (s : State) (ms : List (Entry Mutex)) → IsWellFormed s → Same s (condition.timedwait_row t c a d clock s ms).threads
  timedwait t c a d clock s ms k =
      kept_conditions.kept_timedwait (Same s) t c a d clock s ms (λ _ z i. begun t (reason.Condition c a) (Some d) z (p.condition c a) ∙ i)
      (λ z ns i. retaken t a z ns ∙ i) (unlock t a s ms k) refl

  at_condition : (c : ℕ) (w : Wait) → is_for (object.Condition c) w ≡ true → is_for o w ≡ false
  at_condition c w h = for_another (object.Condition c) w.reason refl h

  pub signal : (c : ℕ) (s : State) (ms : List (Entry Mutex)) → IsWellFormed s → Same s (condition.signal_row c s ms).threads
  signal c s ms k = signal_elsewhere (is_for o) at_condition (λ t a r. p.retake a r) joins_another_object c s ms k

  pub broadcast : (c : ℕ) (s : State) (ms : List (Entry Mutex)) → IsWellFormed s → Same s (condition.broadcast_row c s ms).threads
  broadcast c s ms k = broadcast_elsewhere (is_for o) at_condition (λ t a r. p.retake a r) joins_another_object c s ms k

  -- INPUT

  feed_first_same : (f : Option Wait) (bs bytes : List ℕ) (v : ℕ) (z : State) → first_waiter object.Input z ≡ f → IsWellFormed z → ((y : State) → IsWellFormed y → Same y (feed bs y).threads)
      → Same z (feed_first (feed bs) f bytes v z).threads
  feed_first_same None bs bytes v z e k more = refl
  feed_first_same (Some w) bs bytes v z e k more = more (woken w.thread v z) (well_formed_woken w.thread v z k) ∙ first_ends object.Input w z refl k e

  pub fed : (bs : List ℕ) (z : State) → IsWellFormed z → Same z (feed bs z).threads
  fed [] z k = refl
  fed (v ∷ bs) z k = feed_first_same (first_waiter object.Input z) bs (v ∷ bs) v z refl k (λ y j. fed bs y j)

  -- all who wait for another object are woken
  module _ (q : Object) (v : ℕ) (n : (w : Wait) → is_for q w ≡ true → is_for o w ≡ false) where
    all_same : (ws : List Wait) (z : State) → queue_of q z ≡ ws → IsWellFormed z → Same z (all_woken v ws z)
    all_same [] z e k = refl
    all_same (w ∷ ws) z e k =
        let first : first_waiter q z ≡ Some w = first_of_queue q z ∙ ap (λ l. slice_get l 0) e in
        let rest : queue_of q (woken w.thread v z) ≡ ws = ap (λ l. drop 1 l) (sym (queue_rest q z w v first k) ∙ e) in
        all_same ws (woken w.thread v z) rest (well_formed_woken w.thread v z k) ∙ found_ends (is_for q) w z k first (n w (found_holds (is_for q) z.waits w first))

  pub readers_woken : (v : ℕ) (z : State) → IsWellFormed z → Same z (all_woken v (queue_of object.Input z) z)
  readers_woken v z k = all_same object.Input v (λ w h. for_another object.Input w.reason refl h) (queue_of object.Input z) z refl k

-- where all of a queue are woken, nobody is left in it
none_left : (q : Object) (v : ℕ) (ws : List Wait) (z : State) → queue_of q z ≡ ws → IsWellFormed z → queue_of q (all_woken v ws z) ≡ []
none_left q v [] z e k = e
none_left q v (w ∷ ws) z e k =
    let first : first_waiter q z ≡ Some w = first_of_queue q z ∙ ap (λ l. slice_get l 0) e in
    none_left q v ws (woken w.thread v z) (ap (λ l. drop 1 l) (sym (queue_rest q z w v first k) ∙ e)) (well_formed_woken w.thread v z k)

pub all_woken_leave_none : (q : Object) (v : ℕ) (z : State) → IsWellFormed z → queue_of q (all_woken v (queue_of q z) z) ≡ []
all_woken_leave_none q v z k = none_left q v (queue_of q z) z refl k

-- THE ROW OF A BARRIER'S WAIT

for_no_lock : (b l : ℕ) (r : Reason) → is_reason_for (object.Barrier b) r ≡ true → is_reason_for (object.RwLock l) r ≡ false
for_no_lock b l reason.Input h = refl
for_no_lock b l reason.Sleep h = refl
for_no_lock b l (reason.Join i) h = refl
for_no_lock b l (reason.Lock m) h = refl
for_no_lock b l (reason.Retake m v) h = refl
for_no_lock b l (reason.Condition c m) h = refl
for_no_lock b l (reason.Barrier c) h = refl
for_no_lock b l (reason.Read a) h = absurd (cc)
for_no_lock b l (reason.Write a) h = absurd (cc)

barrier_wait_at : (l : ℕ) (r : Option Barrier) (t b : ℕ) (s : State) (bs : List (Entry Barrier)) → IsWellFormed s → queue_of (object.RwLock l) (barrier.wait_at r t b s bs).threads ≡ queue_of (object.RwLock l) s
barrier_wait_at l None t b s bs k = refl
barrier_wait_at l (Some r) t b s bs k =
    choice {A = barrier.After} (λ x. queue_of (object.RwLock l) x.threads ≡ queue_of (object.RwLock l) s) (length (barrier.waiters b s) + 1 == r.count) _ _
    (all_same (object.RwLock l) (lock_apart l) (object.Barrier b) 0 (λ w h. for_no_lock b l w.reason h) (barrier.waiters b s) s refl k)
    (begun (object.RwLock l) (lock_apart l) t (reason.Barrier b) None s refl)

-- those who meet at a barrier wait for no lock
pub barrier_wait : (l t b : ℕ) (s : State) (bs : List (Entry Barrier)) → IsWellFormed s → queue_of (object.RwLock l) (barrier.wait_row t b s bs).threads ≡ queue_of (object.RwLock l) s
barrier_wait l t b s bs k = barrier_wait_at l (lookup b bs) t b s bs k

-- THE RULES OF BARRIERS AND LOCKS, where the queues are the same

pub barriers_same : (s z : State) (bs : List (Entry Barrier)) → SameQueues s z → barrier_rules.IsWellFormedWith s bs → barrier_rules.IsWellFormedWith z bs
barriers_same s z bs same h = barriers.well_formed_fewer s z bs (λ b. (let q = same (object.Barrier b) (barrier_apart b) in rw q (omega arith))) h

pub locks_same : (s z : State) (ls : List (Entry RwLock)) → SameQueues s z → lock_rules.IsWellFormedWith s ls → lock_rules.IsWellFormedWith z ls
locks_same s z ls same h = locks.well_formed_elsewhere s z ls (λ l. same (object.RwLock l) (lock_apart l)) h

-- who waits for a barrier or a lock has no deadline
timed_for_another : (o : Object) (r : Reason) (d : Option ℕ) → IsApart o → is_deadline_of r d ≡ true → is_some d ≡ true → is_reason_for o r ≡ false
timed_for_another o (reason.Barrier b) None p h t = absurd (cc)
timed_for_another o (reason.Barrier b) (Some d) p h t = absurd (cc)
timed_for_another o (reason.Read l) None p h t = absurd (cc)
timed_for_another o (reason.Read l) (Some d) p h t = absurd (cc)
timed_for_another o (reason.Write l) None p h t = absurd (cc)
timed_for_another o (reason.Write l) (Some d) p h t = absurd (cc)
timed_for_another o reason.Input d p h t = p.input
timed_for_another o reason.Sleep d p h t = p.sleep
timed_for_another o (reason.Join i) d p h t = p.join i
timed_for_another o (reason.Lock m) d p h t = p.lock m
timed_for_another o (reason.Retake m v) d p h t = p.retake m v
timed_for_another o (reason.Condition c m) d p h t = p.condition c m

-- TIME: a wait that has a deadline ends at it

module _ (w : Wait) (s : State) (k : IsWellFormed s) (e : find (is_of w.thread) s.waits ≡ Some w) (d : is_some w.deadline ≡ true) where
  not_for : (o : Object) → IsApart o → is_for o w ≡ false
  not_for o p = timed_for_another o w.reason w.deadline p (found_all (is_of w.thread) has_proper_deadline s.waits w e k.deadlines) d

  pub timed_ended : (v : ℕ) → SameQueues s (woken w.thread v s)
  timed_ended v o p = found_ends o p (is_of w.thread) w s k e (not_for o p)

  pub timed_resumed : (a : ℕ) (ms : List (Entry Mutex)) → SameQueues s (condition.resume_row w.thread a retake.TimedOut s ms).threads
  timed_resumed a ms o p = resume_elsewhere (is_for o) (at_condition o p) (λ t m r. p.retake m r) (joins_another_object o p) (is_of w.thread) w a retake.TimedOut s ms k e (not_for o p)
