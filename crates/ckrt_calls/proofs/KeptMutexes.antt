-- The calls on mutexes keep the rules of the tables.
use Rattle.std.proofs.Common.{ℕ, Some, None, refl}
use Rattle.ckrt_registers.specs.Registers.{Registers}
use Rattle.ckrt_registers.specs.Registers.{get}
use Rattle.ckrt_thread.specs.declared.records.Reason.TheVariants as reason
use Rattle.ckrt_mutex.specs.Rows.{init_row, destroy_row, lock_row, timedlock_row, trylock_row, unlock_row}
use Rattle.ckrt_mutex.proofs.Rows.{well_formed_init, well_formed_destroy, well_formed_lock, well_formed_timedlock, well_formed_trylock, well_formed_unlock}
use Rattle.ckrt_mutex.proofs.ThreadsKept as mutex_threads
use Rattle.ckrt_mutex.proofs.ThreadsKept.{live_unlock}
use Rattle.ckrt_cond.specs.WellFormed as conditions
use Rattle.ckrt_cond.proofs.Waits.{conditions_other}
use Rattle.ckrt_calls.specs.declared.table.Tables.{Tables}
use Rattle.ckrt_calls.specs.WellFormed.{IsWellFormed}
use Rattle.ckrt_calls.specs.declared.number.MutexCall.{MutexCall}
use Rattle.ckrt_calls.specs.declared.number.MutexCall.TheVariants as mutex_call
use Rattle.ckrt_calls.specs.Table.{mutex_row, moment_of}
use Rattle.ckrt_calls.specs.Calling.{MayCall}
use Rattle.ckrt_calls.proofs.ThreadRows.{AllWaits, all_blocked}
use Rattle.ckrt_calls.proofs.Queues as queues
use Rattle.ckrt_calls.proofs.MutexRows as mutex
use Rattle.ckrt_calls.proofs.MutexRows.{condition_rule}
use Rattle.ckrt_calls.proofs.Calling.{AnyLive, caller_lives, some_live, ahead, lacks, all_ahead, all_lack, ahead_rule, lacks_rule, IsAfter, changed, range, later}

kept_init : (t a k : ℕ) (s : Tables) → MayCall t s → IsAfter s (init_row a k s.threads s.mutexes).threads (init_row a k s.threads s.mutexes).mutexes
kept_init t a k s m = record {
  threads = mutex_threads.threads_init a k s.threads s.mutexes m.well_formed.threads;
  mutexes = well_formed_init a k s.threads s.mutexes m.well_formed.mutexes;
  conditions = mutex.kept_init conditions.IsWellFormed a k s.threads s.mutexes m.well_formed.conditions;
  others = λ o p. queues.mutex_init o p a k s.threads s.mutexes;
  live = mutex.kept_init AnyLive a k s.threads s.mutexes (some_live t s m);
  deadlines = mutex.kept_init (AllWaits (ahead s)) a k s.threads s.mutexes (all_ahead t s m);
  readers = mutex.kept_init (AllWaits (lacks s)) a k s.threads s.mutexes (all_lack t s m);
}

kept_destroy : (t a : ℕ) (s : Tables) → MayCall t s → IsAfter s (destroy_row a s.threads s.mutexes).threads (destroy_row a s.threads s.mutexes).mutexes
kept_destroy t a s m = record {
  threads = mutex_threads.threads_destroy a s.threads s.mutexes m.well_formed.threads;
  mutexes = well_formed_destroy a s.threads s.mutexes m.well_formed.mutexes;
  conditions = mutex.kept_destroy conditions.IsWellFormed a s.threads s.mutexes m.well_formed.conditions;
  others = λ o p. queues.mutex_destroy o p a s.threads s.mutexes;
  live = mutex.kept_destroy AnyLive a s.threads s.mutexes (some_live t s m);
  deadlines = mutex.kept_destroy (AllWaits (ahead s)) a s.threads s.mutexes (all_ahead t s m);
  readers = mutex.kept_destroy (AllWaits (lacks s)) a s.threads s.mutexes (all_lack t s m);
}

kept_lock : (t a : ℕ) (s : Tables) → MayCall t s → IsAfter s (lock_row t a s.threads s.mutexes).threads (lock_row t a s.threads s.mutexes).mutexes
kept_lock t a s m = record {
  threads = mutex_threads.threads_lock t a s.threads s.mutexes m.well_formed.threads m.live m.free;
  mutexes = well_formed_lock t a s.threads s.mutexes m.well_formed.mutexes (range t s m) m.free;
  conditions = mutex.kept_lock conditions.IsWellFormed t a s.threads s.mutexes (conditions_other t (reason.Lock a) None s.threads (λ c b. refl) m.well_formed.conditions) m.well_formed.conditions;
  others = λ o p. queues.lock o p t a s.threads s.mutexes;
  live = mutex.kept_lock AnyLive t a s.threads s.mutexes (some_live t s m) (some_live t s m);
  deadlines = mutex.kept_lock (AllWaits (ahead s)) t a s.threads s.mutexes (all_blocked (ahead s) t (reason.Lock a) None s.threads refl (all_ahead t s m)) (all_ahead t s m);
  readers = mutex.kept_lock (AllWaits (lacks s)) t a s.threads s.mutexes (all_blocked (lacks s) t (reason.Lock a) None s.threads refl (all_lack t s m)) (all_lack t s m);
}

kept_timedlock : (t a d : ℕ) (s : Tables) → MayCall t s → IsAfter s (timedlock_row t a d s.clock s.threads s.mutexes).threads (timedlock_row t a d s.clock s.threads s.mutexes).mutexes
kept_timedlock t a d s m = record {
  threads = mutex_threads.threads_timedlock t a s.threads s.mutexes m.well_formed.threads m.live m.free d s.clock;
  mutexes = well_formed_timedlock t a d s.clock s.threads s.mutexes m.well_formed.mutexes (range t s m) m.free;
  conditions = mutex.kept_timedlock conditions.IsWellFormed t a d s.clock s.threads s.mutexes (λ _. conditions_other t (reason.Lock a) (Some d) s.threads (λ c b. refl) m.well_formed.conditions) m.well_formed.conditions;
  others = λ o p. queues.timedlock o p t a d s.clock s.threads s.mutexes;
  live = mutex.kept_timedlock AnyLive t a d s.clock s.threads s.mutexes (λ _. some_live t s m) (some_live t s m);
  deadlines = mutex.kept_timedlock (AllWaits (ahead s)) t a d s.clock s.threads s.mutexes (λ e. all_blocked (ahead s) t (reason.Lock a) (Some d) s.threads (later d s.clock e) (all_ahead t s m)) (all_ahead t s m);
  readers = mutex.kept_timedlock (AllWaits (lacks s)) t a d s.clock s.threads s.mutexes (λ e. all_blocked (lacks s) t (reason.Lock a) (Some d) s.threads refl (all_lack t s m)) (all_lack t s m);
}

kept_trylock : (t a : ℕ) (s : Tables) → MayCall t s → IsAfter s (trylock_row t a s.threads s.mutexes).threads (trylock_row t a s.threads s.mutexes).mutexes
kept_trylock t a s m = record {
  threads = mutex_threads.threads_trylock t a s.threads s.mutexes m.well_formed.threads;
  mutexes = well_formed_trylock t a s.threads s.mutexes m.well_formed.mutexes (range t s m) m.free;
  conditions = mutex.kept_trylock conditions.IsWellFormed t a s.threads s.mutexes m.well_formed.conditions;
  others = λ o p. queues.trylock o p t a s.threads s.mutexes;
  live = mutex.kept_trylock AnyLive t a s.threads s.mutexes (some_live t s m);
  deadlines = mutex.kept_trylock (AllWaits (ahead s)) t a s.threads s.mutexes (all_ahead t s m);
  readers = mutex.kept_trylock (AllWaits (lacks s)) t a s.threads s.mutexes (all_lack t s m);
}

kept_unlock : (t a : ℕ) (s : Tables) → MayCall t s → IsAfter s (unlock_row t a s.threads s.mutexes).threads (unlock_row t a s.threads s.mutexes).mutexes
kept_unlock t a s m = record {
  threads = mutex_threads.threads_unlock t a s.threads s.mutexes m.well_formed.threads;
  mutexes = well_formed_unlock t a s.threads s.mutexes m.well_formed.threads m.well_formed.mutexes;
  conditions = mutex.unlock_rule condition_rule t a s.threads s.mutexes m.well_formed.conditions;
  others = λ o p. queues.unlock o p t a s.threads s.mutexes m.well_formed.threads;
  live = caller_lives t (unlock_row t a s.threads s.mutexes).threads (live_unlock t t a s.threads s.mutexes m.live m.free);
  deadlines = mutex.unlock_rule (ahead_rule s) t a s.threads s.mutexes (all_ahead t s m);
  readers = mutex.unlock_rule (lacks_rule s) t a s.threads s.mutexes (all_lack t s m);
}

pub kept_mutex : (c : MutexCall) (t : ℕ) (r : Registers) (s : Tables) → MayCall t s → IsWellFormed (mutex_row c t r s).tables
kept_mutex mutex_call.Init t r s m = changed t s _ _ m (kept_init t (get r 10) (get r 11) s m)
kept_mutex mutex_call.Destroy t r s m = changed t s _ _ m (kept_destroy t (get r 10) s m)
kept_mutex mutex_call.Lock t r s m = changed t s _ _ m (kept_lock t (get r 10) s m)
kept_mutex mutex_call.TryLock t r s m = changed t s _ _ m (kept_trylock t (get r 10) s m)
kept_mutex mutex_call.TimedLock t r s m = changed t s _ _ m (kept_timedlock t (get r 10) (moment_of (get r 11) (get r 12)) s m)
kept_mutex mutex_call.Unlock t r s m = changed t s _ _ m (kept_unlock t (get r 10) s m)
