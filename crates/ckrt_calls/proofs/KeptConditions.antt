-- The calls on conditions keep the rules of the tables.
use Rattle.std.proofs.Common.{◌≡◌, ℕ, nat_le, Bool, true, false, Some, None, List, refl}
use Rattle.ckrt_registers.specs.Registers.{Registers}
use Rattle.ckrt_registers.specs.Registers.{get}
use Rattle.ckrt_thread.specs.State as threads
use Rattle.ckrt_thread.specs.declared.records.Wait.{Wait}
use Rattle.ckrt_thread.specs.declared.records.Reason.TheVariants as reason
use Rattle.ckrt_thread.specs.declared.records.RetakeResult.{RetakeResult}
use Rattle.ckrt_thread.specs.declared.records.RetakeResult.TheVariants as retake
use Rattle.ckrt_thread.specs.Abi.{A0}
use Rattle.ckrt_thread.specs.Errors.{ETIMEDOUT}
use Rattle.ckrt_thread.specs.Waits.{retake_code}
use Rattle.ckrt_thread.specs.State.{with_word, unwaited, woken}
use Rattle.ckrt_thread.proofs.WaitLemmas.{list_all-without}
use Rattle.ckrt_objects.specs.declared.address_map.Entry.{Entry}
use Rattle.ckrt_mutex.specs.declared.records.Mutex.{Mutex}
use Rattle.ckrt_mutex.specs.Rows.{unlock_row, retake_row}
use Rattle.ckrt_mutex.proofs.ThreadsKept.{live_unlock}
use Rattle.ckrt_cond.specs.WellFormed as conditions
use Rattle.ckrt_cond.specs.Rows as condition
use Rattle.ckrt_cond.specs.Rows.{wait_row, timedwait_row, signal_row, broadcast_row, resume_row}
use Rattle.ckrt_cond.proofs.Waits.{conditions_unwaited}
use Rattle.ckrt_cond.proofs.Kept as kept_conditions
use Rattle.ckrt_cond.proofs.Kept.{well_formed_wait, well_formed_timedwait, well_formed_signal, well_formed_broadcast}
use Rattle.ckrt_cond.proofs.ThreadsKept as condition_threads
use Rattle.ckrt_calls.specs.declared.table.Tables.{Tables}
use Rattle.ckrt_calls.specs.WellFormed.{IsWellFormed}
use Rattle.ckrt_calls.specs.declared.number.ConditionCall.{ConditionCall}
use Rattle.ckrt_calls.specs.declared.number.ConditionCall.TheVariants as condition_call
use Rattle.ckrt_calls.specs.Table.{condition_row, moment_of}
use Rattle.ckrt_calls.specs.Calling.{MayCall}
use Rattle.ckrt_calls.proofs.ThreadRows as rows
use Rattle.ckrt_calls.proofs.ThreadRows.{IsWaitRule, AllWaits, all_blocked, any_live_change}
use Rattle.ckrt_calls.proofs.Queues as queues
use Rattle.ckrt_calls.proofs.MutexRows as mutex
use Rattle.ckrt_calls.proofs.Calling.{AnyLive, caller_lives, some_live, ahead, lacks, all_ahead, all_lack, ahead_rule, lacks_rule, IsAfter, changed, later}

pub conditions_woken : (t v : ℕ) (z : threads.State) → conditions.IsWellFormed z → conditions.IsWellFormed (woken t v z)
conditions_woken t v z h = conditions_unwaited t z (woken t v z) refl h

-- a test that the wait to retake a mutex passes is kept where a thread retakes one
retake_all : (f : Wait → Bool) → IsWaitRule (AllWaits f) → (t a : ℕ) (r : RetakeResult) (z : threads.State) (ms : List (Entry Mutex)) → f (record { thread = t; reason = reason.Retake a r; deadline = None }) ≡ true → AllWaits f z → AllWaits f (retake_row t a r z ms).threads
retake_all f rule t a r z ms e h = mutex.kept_retake (AllWaits f) t a r z ms (rows.kept_answered rule (retake_code r) t z h) (all_blocked f t (reason.Retake a r) None z e h)

pub resume_all : (f : Wait → Bool) → IsWaitRule (AllWaits f) → (r : RetakeResult) → ((t a : ℕ) → f (record { thread = t; reason = reason.Retake a r; deadline = None }) ≡ true) → (t a : ℕ) (z : threads.State) (ms : List (Entry Mutex)) → AllWaits f z → AllWaits f (resume_row t a r z ms).threads
resume_all f rule r e t a z ms h = retake_all f rule t a r (unwaited t z) ms (e t a) (list_all-without f t z.waits h)

-- a thread that gets a result has not ended
retake_any_live : (t a v : ℕ) (r : RetakeResult) (z : threads.State) (ms : List (Entry Mutex)) → retake_code r ≡ Some v → AnyLive z → AnyLive (retake_row t a r z ms).threads
retake_any_live t a v r z ms e h = mutex.kept_retake AnyLive t a r z ms (rw e (any_live_change (with_word A0 v) t z.threads h)) h

pub resume_any_live : (t a v : ℕ) (r : RetakeResult) (z : threads.State) (ms : List (Entry Mutex)) → retake_code r ≡ Some v → AnyLive z → AnyLive (resume_row t a r z ms).threads
resume_any_live t a v r z ms e h = retake_any_live t a v r (unwaited t z) ms e h

signalled_any_live : (t a : ℕ) (z : threads.State) (ms : List (Entry Mutex)) → AnyLive z → AnyLive (resume_row t a retake.Done z ms).threads
signalled_any_live t a z ms h = resume_any_live t a 0 retake.Done z ms refl h

kept_condition_init : (t c : ℕ) (s : Tables) → MayCall t s → IsAfter s (condition.init_row c s.threads s.mutexes).threads (condition.init_row c s.threads s.mutexes).mutexes
kept_condition_init t c s m =
    let k = kept_conditions.well_formed_init c s.threads s.mutexes m.well_formed.mutexes m.well_formed.conditions in
    record {
      threads = condition_threads.threads_init c s.threads s.mutexes m.well_formed.threads;
      mutexes = k.mutexes;
      conditions = k.conditions;
      others = λ o p. queues.condition_init o p c s.threads s.mutexes;
      live = kept_conditions.kept_init AnyLive c s.threads s.mutexes (some_live t s m);
      deadlines = kept_conditions.kept_init (AllWaits (ahead s)) c s.threads s.mutexes (all_ahead t s m);
      readers = kept_conditions.kept_init (AllWaits (lacks s)) c s.threads s.mutexes (all_lack t s m);
    }

kept_condition_destroy : (t c : ℕ) (s : Tables) → MayCall t s → IsAfter s (condition.destroy_row c s.threads s.mutexes).threads (condition.destroy_row c s.threads s.mutexes).mutexes
kept_condition_destroy t c s m =
    let k = kept_conditions.well_formed_destroy c s.threads s.mutexes m.well_formed.mutexes m.well_formed.conditions in
    record {
      threads = condition_threads.threads_destroy c s.threads s.mutexes m.well_formed.threads;
      mutexes = k.mutexes;
      conditions = k.conditions;
      others = λ o p. queues.condition_destroy o p c s.threads s.mutexes;
      live = kept_conditions.kept_destroy AnyLive c s.threads s.mutexes (some_live t s m);
      deadlines = kept_conditions.kept_destroy (AllWaits (ahead s)) c s.threads s.mutexes (all_ahead t s m);
      readers = kept_conditions.kept_destroy (AllWaits (lacks s)) c s.threads s.mutexes (all_lack t s m);
    }

wait_all : (f : Wait → Bool) → IsWaitRule (AllWaits f) → (t c a : ℕ) (s : Tables) → f (record { thread = t; reason = reason.Condition c a; deadline = None }) ≡ true → AllWaits f s.threads → AllWaits f (wait_row t c a s.threads s.mutexes).threads
wait_all f rule t c a s e h =
    kept_conditions.kept_wait (AllWaits f) t c a s.threads s.mutexes (λ z i. all_blocked f t (reason.Condition c a) None z e i) (mutex.unlock_rule rule t a s.threads s.mutexes h) h

kept_condition_wait : (t c a : ℕ) (s : Tables) → MayCall t s → IsAfter s (wait_row t c a s.threads s.mutexes).threads (wait_row t c a s.threads s.mutexes).mutexes
kept_condition_wait t c a s m =
    let k = well_formed_wait t c a s.threads s.mutexes m.well_formed.threads m.live m.free m.well_formed.mutexes m.well_formed.conditions in
    record {
      threads = condition_threads.threads_wait t c a s.threads s.mutexes m.well_formed.threads m.live m.free;
      mutexes = k.mutexes;
      conditions = k.conditions;
      others = λ o p. queues.wait o p t c a s.threads s.mutexes m.well_formed.threads;
      live = caller_lives t (wait_row t c a s.threads s.mutexes).threads (kept_conditions.kept_wait (λ z. threads.is_live z t ≡ true) t c a s.threads s.mutexes (λ z i. i) (live_unlock t t a s.threads s.mutexes m.live m.free) m.live);
      deadlines = wait_all (ahead s) (ahead_rule s) t c a s refl (all_ahead t s m);
      readers = wait_all (lacks s) (lacks_rule s) t c a s refl (all_lack t s m);
    }

timedwait_all : (f : Wait → Bool) → IsWaitRule (AllWaits f) → (t c a d : ℕ) (s : Tables) → (nat_le d s.clock ≡ false → f (record { thread = t; reason = reason.Condition c a; deadline = Some d }) ≡ true) → f (record { thread = t; reason = reason.Retake a retake.TimedOut; deadline = None }) ≡ true
    → AllWaits f s.threads → AllWaits f (timedwait_row t c a d s.clock s.threads s.mutexes).threads
timedwait_all f rule t c a d s e r h =
    kept_conditions.kept_timedwait (AllWaits f) t c a d s.clock s.threads s.mutexes (λ l z i. all_blocked f t (reason.Condition c a) (Some d) z (e l) i)
    (λ z ms i. retake_all f rule t a retake.TimedOut z ms r i) (mutex.unlock_rule rule t a s.threads s.mutexes h) h

kept_condition_timedwait : (t c a d : ℕ) (s : Tables) → MayCall t s → IsAfter s (timedwait_row t c a d s.clock s.threads s.mutexes).threads (timedwait_row t c a d s.clock s.threads s.mutexes).mutexes
kept_condition_timedwait t c a d s m =
    let k = well_formed_timedwait t c a s.threads s.mutexes m.well_formed.threads m.live m.free m.well_formed.mutexes m.well_formed.conditions d s.clock in
    record {
      threads = condition_threads.threads_timedwait t c a s.threads s.mutexes m.well_formed.threads m.live m.free d s.clock;
      mutexes = k.mutexes;
      conditions = k.conditions;
      others = λ o p. queues.timedwait o p t c a d s.clock s.threads s.mutexes m.well_formed.threads;
      live = kept_conditions.kept_timedwait AnyLive t c a d s.clock s.threads s.mutexes (λ l z i. i) (λ z ms i. retake_any_live t a ETIMEDOUT retake.TimedOut z ms refl i)
          (caller_lives t (unlock_row t a s.threads s.mutexes).threads (live_unlock t t a s.threads s.mutexes m.live m.free)) (some_live t s m);
      deadlines = timedwait_all (ahead s) (ahead_rule s) t c a d s (λ l. later d s.clock l) refl (all_ahead t s m);
      readers = timedwait_all (lacks s) (lacks_rule s) t c a d s (λ l. refl) refl (all_lack t s m);
    }

kept_signal : (t c : ℕ) (s : Tables) → MayCall t s → IsAfter s (signal_row c s.threads s.mutexes).threads (signal_row c s.threads s.mutexes).mutexes
kept_signal t c s m =
    let k = well_formed_signal c s.threads s.mutexes m.well_formed.threads m.well_formed.mutexes m.well_formed.conditions in
    record {
      threads = condition_threads.threads_signal c s.threads s.mutexes m.well_formed.threads;
      mutexes = k.mutexes;
      conditions = k.conditions;
      others = λ o p. queues.signal o p c s.threads s.mutexes m.well_formed.threads;
      live = kept_conditions.kept_signal AnyLive signalled_any_live c s.threads s.mutexes (some_live t s m);
      deadlines = kept_conditions.kept_signal (AllWaits (ahead s)) (resume_all (ahead s) (ahead_rule s) retake.Done (λ u a. refl)) c s.threads s.mutexes (all_ahead t s m);
      readers = kept_conditions.kept_signal (AllWaits (lacks s)) (resume_all (lacks s) (lacks_rule s) retake.Done (λ u a. refl)) c s.threads s.mutexes (all_lack t s m);
    }

kept_broadcast : (t c : ℕ) (s : Tables) → MayCall t s → IsAfter s (broadcast_row c s.threads s.mutexes).threads (broadcast_row c s.threads s.mutexes).mutexes
kept_broadcast t c s m =
    let k = well_formed_broadcast c s.threads s.mutexes m.well_formed.threads m.well_formed.mutexes m.well_formed.conditions in
    record {
      threads = condition_threads.threads_broadcast c s.threads s.mutexes m.well_formed.threads;
      mutexes = k.mutexes;
      conditions = k.conditions;
      others = λ o p. queues.broadcast o p c s.threads s.mutexes m.well_formed.threads;
      live = kept_conditions.kept_broadcast AnyLive signalled_any_live c s.threads s.mutexes (some_live t s m);
      deadlines = kept_conditions.kept_broadcast (AllWaits (ahead s)) (resume_all (ahead s) (ahead_rule s) retake.Done (λ u a. refl)) c s.threads s.mutexes (all_ahead t s m);
      readers = kept_conditions.kept_broadcast (AllWaits (lacks s)) (resume_all (lacks s) (lacks_rule s) retake.Done (λ u a. refl)) c s.threads s.mutexes (all_lack t s m);
    }

pub kept_condition : (c : ConditionCall) (t : ℕ) (r : Registers) (s : Tables) → MayCall t s → IsWellFormed (condition_row c t r s).tables
kept_condition condition_call.Init t r s m = changed t s _ _ m (kept_condition_init t (get r 10) s m)
kept_condition condition_call.Destroy t r s m = changed t s _ _ m (kept_condition_destroy t (get r 10) s m)
kept_condition condition_call.Wait t r s m = changed t s _ _ m (kept_condition_wait t (get r 10) (get r 11) s m)
kept_condition condition_call.TimedWait t r s m = changed t s _ _ m (kept_condition_timedwait t (get r 10) (get r 11) (moment_of (get r 12) (get r 13)) s m)
kept_condition condition_call.Signal t r s m = changed t s _ _ m (kept_signal t (get r 10) s m)
kept_condition condition_call.Broadcast t r s m = changed t s _ _ m (kept_broadcast t (get r 10) s m)
