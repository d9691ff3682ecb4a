-- The calls on read-write locks keep the rules of the tables.
use Rattle.std.proofs.Common.{◌≡◌, ℕ, true, None, List, refl}
use Rattle.ckrt_registers.specs.Registers.{Registers}
use Rattle.ckrt_registers.specs.Registers.{get}
use Rattle.ckrt_thread.specs.State as threads
use Rattle.ckrt_thread.specs.declared.records.Reason.TheVariants as reason
use Rattle.ckrt_thread.specs.State.{unwaited}
use Rattle.ckrt_objects.specs.declared.address_map.Entry.{Entry}
use Rattle.ckrt_objects.proofs.Granting.{granted_live}
use Rattle.ckrt_mutex.specs.WellFormed.{IsWellFormedWith}
use Rattle.ckrt_mutex.proofs.WellFormed.{well_formed_unnamed}
use Rattle.ckrt_cond.specs.WellFormed as conditions
use Rattle.ckrt_cond.proofs.Waits.{conditions_other}
use Rattle.ckrt_barrier.specs.declared.barrier.Barrier.{Barrier}
use Rattle.ckrt_barrier.specs.WellFormed as barrier
use Rattle.ckrt_barrier.proofs.WellFormed as barriers
use Rattle.ckrt_rwlock.specs.Rows as lock_rows
use Rattle.ckrt_rwlock.proofs.Rows as lock_rules
use Rattle.ckrt_rwlock.proofs.Kept as kept_locks
use Rattle.ckrt_rwlock.proofs.ThreadsKept as lock_threads
use Rattle.ckrt_calls.specs.declared.table.Tables.{Tables}
use Rattle.ckrt_calls.specs.WellFormed.{IsWellFormed}
use Rattle.ckrt_calls.specs.declared.number.RwLockCall.{RwLockCall}
use Rattle.ckrt_calls.specs.declared.number.RwLockCall.TheVariants as rwlock_call
use Rattle.ckrt_calls.specs.Table.{rwlock_row}
use Rattle.ckrt_calls.specs.Calling.{MayCall}
use Rattle.ckrt_calls.proofs.ThreadRows as rows
use Rattle.ckrt_calls.proofs.ThreadRows.{IsWaitRule, AllWaits, all_blocked}
use Rattle.ckrt_calls.proofs.MutexRows.{wait_rule, condition_rule}
use Rattle.ckrt_calls.proofs.Calling.{AnyLive, caller_lives, some_live, ahead, lacks, all_ahead, all_lack, ahead_rule, lacks_rule, AreAfter, all_changed, range}

barrier_rule : (bs : List (Entry Barrier)) → IsWaitRule (λ z. barrier.IsWellFormedWith z bs)
barrier_rule bs = record {
  same_waits = λ s z e h. barriers.well_formed_same s z bs e h;
  unwaited = λ t s z e h. barriers.well_formed_unwaited t s z bs e h;
  joining = λ t id s h. barriers.well_formed_elsewhere t (reason.Join id) None s bs (λ b. refl) h;
}

-- an unlock keeps each rule of waits
unlocks : {P : threads.State → Type 0} → IsWaitRule P → (t a : ℕ) (s : Tables) → P s.threads → P (lock_rows.unlock_row t a s.threads s.rwlocks).threads
unlocks {P = P} rule t a s h = kept_locks.kept_unlock P t a s.threads s.rwlocks (λ l. rows.kept_granted rule (lock_rows.rwlock_rule a) l s.threads h) h

kept_rdlock : (t a : ℕ) (s : Tables) → MayCall t s → AreAfter s (lock_rows.rdlock_row t a s.threads s.rwlocks).threads s.mutexes s.barriers (lock_rows.rdlock_row t a s.threads s.rwlocks).locks
kept_rdlock t a s m = record {
  threads = lock_threads.threads_rdlock t a s.threads s.rwlocks m.well_formed.threads m.live m.free;
  mutexes = kept_locks.kept_rdlock (λ z. IsWellFormedWith z s.mutexes) t a s.threads s.rwlocks (well_formed_unnamed (reason.Read a) t None s.threads s.mutexes refl m.well_formed.mutexes) m.well_formed.mutexes;
  conditions = kept_locks.kept_rdlock conditions.IsWellFormed t a s.threads s.rwlocks (conditions_other t (reason.Read a) None s.threads (λ c b. refl) m.well_formed.conditions) m.well_formed.conditions;
  barriers = kept_locks.kept_rdlock (λ z. barrier.IsWellFormedWith z s.barriers) t a s.threads s.rwlocks (barriers.well_formed_elsewhere t (reason.Read a) None s.threads s.barriers (λ b. refl) m.well_formed.barriers) m.well_formed.barriers;
  rwlocks = lock_rules.well_formed_rdlock t a s.threads s.rwlocks m.well_formed.rwlocks (range t s m) m.free;
  live = kept_locks.kept_rdlock AnyLive t a s.threads s.rwlocks (some_live t s m) (some_live t s m);
  deadlines = kept_locks.kept_rdlock (AllWaits (ahead s)) t a s.threads s.rwlocks (all_blocked (ahead s) t (reason.Read a) None s.threads refl (all_ahead t s m)) (all_ahead t s m);
  readers = kept_locks.kept_rdlock (AllWaits (lacks s)) t a s.threads s.rwlocks (all_blocked (lacks s) t (reason.Read a) None s.threads refl (all_lack t s m)) (all_lack t s m);
}

kept_tryrdlock : (t a : ℕ) (s : Tables) → MayCall t s → AreAfter s (lock_rows.tryrdlock_row t a s.threads s.rwlocks).threads s.mutexes s.barriers (lock_rows.tryrdlock_row t a s.threads s.rwlocks).locks
kept_tryrdlock t a s m = record {
  threads = lock_threads.threads_tryrdlock t a s.threads s.rwlocks m.well_formed.threads m.live m.free;
  mutexes = kept_locks.kept_tryrdlock (λ z. IsWellFormedWith z s.mutexes) t a s.threads s.rwlocks (well_formed_unnamed (reason.Read a) t None s.threads s.mutexes refl m.well_formed.mutexes) m.well_formed.mutexes;
  conditions = kept_locks.kept_tryrdlock conditions.IsWellFormed t a s.threads s.rwlocks (conditions_other t (reason.Read a) None s.threads (λ c b. refl) m.well_formed.conditions) m.well_formed.conditions;
  barriers = kept_locks.kept_tryrdlock (λ z. barrier.IsWellFormedWith z s.barriers) t a s.threads s.rwlocks (barriers.well_formed_elsewhere t (reason.Read a) None s.threads s.barriers (λ b. refl) m.well_formed.barriers) m.well_formed.barriers;
  rwlocks = lock_rules.well_formed_tryrdlock t a s.threads s.rwlocks m.well_formed.rwlocks (range t s m) m.free;
  live = kept_locks.kept_tryrdlock AnyLive t a s.threads s.rwlocks (some_live t s m) (some_live t s m);
  deadlines = kept_locks.kept_tryrdlock (AllWaits (ahead s)) t a s.threads s.rwlocks (all_blocked (ahead s) t (reason.Read a) None s.threads refl (all_ahead t s m)) (all_ahead t s m);
  readers = kept_locks.kept_tryrdlock (AllWaits (lacks s)) t a s.threads s.rwlocks (all_blocked (lacks s) t (reason.Read a) None s.threads refl (all_lack t s m)) (all_lack t s m);
}

kept_wrlock : (t a : ℕ) (s : Tables) → MayCall t s → AreAfter s (lock_rows.wrlock_row t a s.threads s.rwlocks).threads s.mutexes s.barriers (lock_rows.wrlock_row t a s.threads s.rwlocks).locks
kept_wrlock t a s m = record {
  threads = lock_threads.threads_wrlock t a s.threads s.rwlocks m.well_formed.threads m.live m.free;
  mutexes = kept_locks.kept_wrlock (λ z. IsWellFormedWith z s.mutexes) t a s.threads s.rwlocks (well_formed_unnamed (reason.Write a) t None s.threads s.mutexes refl m.well_formed.mutexes) m.well_formed.mutexes;
  conditions = kept_locks.kept_wrlock conditions.IsWellFormed t a s.threads s.rwlocks (conditions_other t (reason.Write a) None s.threads (λ c b. refl) m.well_formed.conditions) m.well_formed.conditions;
  barriers = kept_locks.kept_wrlock (λ z. barrier.IsWellFormedWith z s.barriers) t a s.threads s.rwlocks (barriers.well_formed_elsewhere t (reason.Write a) None s.threads s.barriers (λ b. refl) m.well_formed.barriers) m.well_formed.barriers;
  rwlocks = lock_rules.well_formed_wrlock t a s.threads s.rwlocks m.well_formed.rwlocks (range t s m) m.free;
  live = kept_locks.kept_wrlock AnyLive t a s.threads s.rwlocks (some_live t s m) (some_live t s m);
  deadlines = kept_locks.kept_wrlock (AllWaits (ahead s)) t a s.threads s.rwlocks (all_blocked (ahead s) t (reason.Write a) None s.threads refl (all_ahead t s m)) (all_ahead t s m);
  readers = kept_locks.kept_wrlock (AllWaits (lacks s)) t a s.threads s.rwlocks (all_blocked (lacks s) t (reason.Write a) None s.threads refl (all_lack t s m)) (all_lack t s m);
}

kept_trywrlock : (t a : ℕ) (s : Tables) → MayCall t s → AreAfter s (lock_rows.trywrlock_row t a s.threads s.rwlocks).threads s.mutexes s.barriers (lock_rows.trywrlock_row t a s.threads s.rwlocks).locks
kept_trywrlock t a s m = record {
  threads = lock_threads.threads_trywrlock t a s.threads s.rwlocks m.well_formed.threads m.live m.free;
  mutexes = kept_locks.kept_trywrlock (λ z. IsWellFormedWith z s.mutexes) t a s.threads s.rwlocks (well_formed_unnamed (reason.Write a) t None s.threads s.mutexes refl m.well_formed.mutexes) m.well_formed.mutexes;
  conditions = kept_locks.kept_trywrlock conditions.IsWellFormed t a s.threads s.rwlocks (conditions_other t (reason.Write a) None s.threads (λ c b. refl) m.well_formed.conditions) m.well_formed.conditions;
  barriers = kept_locks.kept_trywrlock (λ z. barrier.IsWellFormedWith z s.barriers) t a s.threads s.rwlocks (barriers.well_formed_elsewhere t (reason.Write a) None s.threads s.barriers (λ b. refl) m.well_formed.barriers) m.well_formed.barriers;
  rwlocks = lock_rules.well_formed_trywrlock t a s.threads s.rwlocks m.well_formed.rwlocks (range t s m) m.free;
  live = kept_locks.kept_trywrlock AnyLive t a s.threads s.rwlocks (some_live t s m) (some_live t s m);
  deadlines = kept_locks.kept_trywrlock (AllWaits (ahead s)) t a s.threads s.rwlocks (all_blocked (ahead s) t (reason.Write a) None s.threads refl (all_ahead t s m)) (all_ahead t s m);
  readers = kept_locks.kept_trywrlock (AllWaits (lacks s)) t a s.threads s.rwlocks (all_blocked (lacks s) t (reason.Write a) None s.threads refl (all_lack t s m)) (all_lack t s m);
}

kept_rwlock_unlock : (t a : ℕ) (s : Tables) → MayCall t s → AreAfter s (lock_rows.unlock_row t a s.threads s.rwlocks).threads s.mutexes s.barriers (lock_rows.unlock_row t a s.threads s.rwlocks).locks
kept_rwlock_unlock t a s m = record {
  threads = lock_threads.threads_unlock t a s.threads s.rwlocks m.well_formed.threads;
  mutexes = unlocks (wait_rule s.mutexes) t a s m.well_formed.mutexes;
  conditions = unlocks condition_rule t a s m.well_formed.conditions;
  barriers = unlocks (barrier_rule s.barriers) t a s m.well_formed.barriers;
  rwlocks = lock_rules.well_formed_unlock t a s.threads s.rwlocks m.well_formed.threads m.well_formed.rwlocks (range t s m);
  live = caller_lives t (lock_rows.unlock_row t a s.threads s.rwlocks).threads
      (kept_locks.kept_unlock (λ z. threads.is_live z t ≡ true) t a s.threads s.rwlocks (λ l. granted_live (lock_rows.rwlock_rule a) t l s.threads m.live m.free) m.live);
  deadlines = unlocks (ahead_rule s) t a s (all_ahead t s m);
  readers = unlocks (lacks_rule s) t a s (all_lack t s m);
}

pub kept_rwlock : (c : RwLockCall) (t : ℕ) (r : Registers) (s : Tables) → MayCall t s → IsWellFormed (rwlock_row c t r s).tables
kept_rwlock rwlock_call.Init t r s m = m.well_formed
kept_rwlock rwlock_call.Destroy t r s m = m.well_formed
kept_rwlock rwlock_call.RdLock t r s m = all_changed t s _ _ _ _ m (kept_rdlock t (get r 10) s m)
kept_rwlock rwlock_call.TryRdLock t r s m = all_changed t s _ _ _ _ m (kept_tryrdlock t (get r 10) s m)
kept_rwlock rwlock_call.WrLock t r s m = all_changed t s _ _ _ _ m (kept_wrlock t (get r 10) s m)
kept_rwlock rwlock_call.TryWrLock t r s m = all_changed t s _ _ _ _ m (kept_trywrlock t (get r 10) s m)
kept_rwlock rwlock_call.Unlock t r s m = all_changed t s _ _ _ _ m (kept_rwlock_unlock t (get r 10) s m)
