-- The calls on barriers keep the rules of the tables.
use Rattle.std.proofs.Common.{ℕ, None, refl}
use Rattle.ckrt_registers.specs.Registers.{Registers}
use Rattle.ckrt_registers.specs.Registers.{get}
use Rattle.ckrt_thread.specs.State as threads
use Rattle.ckrt_thread.specs.declared.records.Reason.TheVariants as reason
use Rattle.ckrt_thread.specs.State.{woken}
use Rattle.ckrt_mutex.specs.WellFormed.{IsWellFormedWith}
use Rattle.ckrt_mutex.proofs.WellFormed.{well_formed_unnamed}
use Rattle.ckrt_cond.specs.WellFormed as conditions
use Rattle.ckrt_cond.proofs.Waits.{conditions_other}
use Rattle.ckrt_barrier.specs.Rows as barrier_rows
use Rattle.ckrt_barrier.proofs.WellFormed as barriers
use Rattle.ckrt_barrier.proofs.Kept as kept_barriers
use Rattle.ckrt_barrier.proofs.ThreadsKept as barrier_threads
use Rattle.ckrt_rwlock.specs.WellFormed as rwlock
use Rattle.ckrt_rwlock.proofs.WellFormed as locks
use Rattle.ckrt_calls.specs.declared.table.Tables.{Tables}
use Rattle.ckrt_calls.specs.WellFormed.{IsWellFormed}
use Rattle.ckrt_calls.specs.declared.number.BarrierCall.{BarrierCall}
use Rattle.ckrt_calls.specs.declared.number.BarrierCall.TheVariants as barrier_call
use Rattle.ckrt_calls.specs.Table.{barrier_row}
use Rattle.ckrt_calls.specs.Calling.{MayCall}
use Rattle.ckrt_calls.proofs.ThreadRows.{AllWaits, all_woken, all_blocked, any_live_woken}
use Rattle.ckrt_calls.proofs.Queues as queues
use Rattle.ckrt_calls.proofs.MutexRows.{wait_rule}
use Rattle.ckrt_calls.proofs.Calling.{AnyLive, some_live, ahead, lacks, all_ahead, all_lack, AreAfter, all_changed}
use Rattle.ckrt_calls.proofs.KeptConditions.{conditions_woken}

kept_barrier_init : (t b n : ℕ) (s : Tables) → MayCall t s → AreAfter s (barrier_rows.init_row b n s.threads s.barriers).threads s.mutexes (barrier_rows.init_row b n s.threads s.barriers).barriers s.rwlocks
kept_barrier_init t b n s m = record {
  threads = barrier_threads.threads_init b n s.threads s.barriers m.well_formed.threads;
  mutexes = kept_barriers.kept_init (λ z. IsWellFormedWith z s.mutexes) b n s.threads s.barriers m.well_formed.mutexes;
  conditions = kept_barriers.kept_init conditions.IsWellFormed b n s.threads s.barriers m.well_formed.conditions;
  barriers = barriers.well_formed_init b n s.threads s.barriers m.well_formed.barriers;
  rwlocks = kept_barriers.kept_init (λ z. rwlock.IsWellFormedWith z s.rwlocks) b n s.threads s.barriers m.well_formed.rwlocks;
  live = kept_barriers.kept_init AnyLive b n s.threads s.barriers (some_live t s m);
  deadlines = kept_barriers.kept_init (AllWaits (ahead s)) b n s.threads s.barriers (all_ahead t s m);
  readers = kept_barriers.kept_init (AllWaits (lacks s)) b n s.threads s.barriers (all_lack t s m);
}

kept_barrier_destroy : (t b : ℕ) (s : Tables) → MayCall t s → AreAfter s (barrier_rows.destroy_row b s.threads s.barriers).threads s.mutexes (barrier_rows.destroy_row b s.threads s.barriers).barriers s.rwlocks
kept_barrier_destroy t b s m = record {
  threads = barrier_threads.threads_destroy b s.threads s.barriers m.well_formed.threads;
  mutexes = kept_barriers.kept_destroy (λ z. IsWellFormedWith z s.mutexes) b s.threads s.barriers m.well_formed.mutexes;
  conditions = kept_barriers.kept_destroy conditions.IsWellFormed b s.threads s.barriers m.well_formed.conditions;
  barriers = barriers.well_formed_destroy b s.threads s.barriers m.well_formed.barriers;
  rwlocks = kept_barriers.kept_destroy (λ z. rwlock.IsWellFormedWith z s.rwlocks) b s.threads s.barriers m.well_formed.rwlocks;
  live = kept_barriers.kept_destroy AnyLive b s.threads s.barriers (some_live t s m);
  deadlines = kept_barriers.kept_destroy (AllWaits (ahead s)) b s.threads s.barriers (all_ahead t s m);
  readers = kept_barriers.kept_destroy (AllWaits (lacks s)) b s.threads s.barriers (all_lack t s m);
}

mutexes_woken : (s : Tables) (t v : ℕ) (z : threads.State) → IsWellFormedWith z s.mutexes → IsWellFormedWith (woken t v z) s.mutexes
mutexes_woken s t v z h = (let waits = wait_rule s.mutexes in waits.unwaited t z (woken t v z) refl h)

kept_barrier_wait : (t b : ℕ) (s : Tables) → MayCall t s → AreAfter s (barrier_rows.wait_row t b s.threads s.barriers).threads s.mutexes (barrier_rows.wait_row t b s.threads s.barriers).barriers s.rwlocks
kept_barrier_wait t b s m = record {
  threads = barrier_threads.threads_wait t b s.threads s.barriers m.well_formed.threads m.live m.free;
  mutexes = kept_barriers.kept_wait (λ z. IsWellFormedWith z s.mutexes) (mutexes_woken s) t b s.threads s.barriers (well_formed_unnamed (reason.Barrier b) t None s.threads s.mutexes refl m.well_formed.mutexes) m.well_formed.mutexes;
  conditions = kept_barriers.kept_wait conditions.IsWellFormed conditions_woken t b s.threads s.barriers (conditions_other t (reason.Barrier b) None s.threads (λ c a. refl) m.well_formed.conditions) m.well_formed.conditions;
  barriers = barriers.well_formed_wait t b s.threads s.barriers m.well_formed.barriers;
  rwlocks = locks.well_formed_elsewhere s.threads (barrier_rows.wait_row t b s.threads s.barriers).threads s.rwlocks (λ l. queues.barrier_wait l t b s.threads s.barriers m.well_formed.threads) m.well_formed.rwlocks;
  live = kept_barriers.kept_wait AnyLive any_live_woken t b s.threads s.barriers (some_live t s m) (some_live t s m);
  deadlines = kept_barriers.kept_wait (AllWaits (ahead s)) (all_woken (ahead s)) t b s.threads s.barriers (all_blocked (ahead s) t (reason.Barrier b) None s.threads refl (all_ahead t s m)) (all_ahead t s m);
  readers = kept_barriers.kept_wait (AllWaits (lacks s)) (all_woken (lacks s)) t b s.threads s.barriers (all_blocked (lacks s) t (reason.Barrier b) None s.threads refl (all_lack t s m)) (all_lack t s m);
}

pub kept_barrier : (c : BarrierCall) (t : ℕ) (r : Registers) (s : Tables) → MayCall t s → IsWellFormed (barrier_row c t r s).tables
kept_barrier barrier_call.Init t r s m = all_changed t s _ _ _ _ m (kept_barrier_init t (get r 10) (get r 11) s m)
kept_barrier barrier_call.Destroy t r s m = all_changed t s _ _ _ _ m (kept_barrier_destroy t (get r 10) s m)
kept_barrier barrier_call.Wait t r s m = all_changed t s _ _ _ _ m (kept_barrier_wait t (get r 10) s m)
