-- The tables keep their rules where a thread runs, faults or unwinds, and where the program ends.
use Rattle.std.proofs.Common.{◌≡◌, ◌%◌, ℕ, Bool, true, false, refl, subst, ◌∙◌}
use Rattle.ckrt_rv32i.specs.declared.execution.Cause.{Cause}
use Rattle.ckrt_thread.specs.State as threads
use Rattle.ckrt_thread.specs.declared.records.Live.{Live}
use Rattle.ckrt_thread.specs.State.{is_any_live, is_live_thread, change_thread}
use Rattle.ckrt_thread.specs.Unwinding.{next_handler}
use Rattle.ckrt_thread.proofs.SlotLemmas.{kept_at, live_change}
use Rattle.ckrt_thread.proofs.Unwound.{well_formed_next}
use Rattle.ckrt_mutex.specs.WellFormed.{IsWellFormedWith}
use Rattle.ckrt_cond.specs.WellFormed as conditions
use Rattle.ckrt_cancel.specs.Rows.{begin_unwind, act_on_request}
use Rattle.ckrt_cancel.proofs.ThreadsKept.{threads_begin_unwind, threads_act_on_request}
use Rattle.ckrt_barrier.proofs.WellFormed as barriers
use Rattle.ckrt_rwlock.proofs.WellFormed as locks
use Rattle.ckrt_calls.specs.declared.table.Status.TheVariants.{Exited, Faulted}
use Rattle.ckrt_calls.specs.declared.table.Tables.{Tables}
use Rattle.ckrt_calls.specs.WellFormed.{IsWellFormed}
use Rattle.ckrt_calls.specs.Table.{status_with, by_unwinding, unwound, begun_unwind, acted}
use Rattle.ckrt_calls.specs.Calling.{MayCall}
use Rattle.ckrt_calls.proofs.ThreadRows as rows
use Rattle.ckrt_calls.proofs.ThreadRows.{AllWaits, any_live_change}
use Rattle.ckrt_calls.proofs.Queues as queues
use Rattle.ckrt_calls.proofs.Queues.{SameQueues, barriers_same, locks_same}
use Rattle.ckrt_calls.proofs.MutexRows.{wait_rule, condition_rule}
use Rattle.ckrt_calls.proofs.Calling.{ahead, lacks, all_ahead, all_lack, ahead_rule, lacks_rule, changed}

-- WHAT A STEP OF A HART DOES BESIDES CALLS

-- the registers of a thread change
pub well_formed_change : (f : Live → Live) (t : ℕ) (s : Tables) → IsWellFormed s → threads.IsWellFormed (record s.threads { threads = change_thread f t s.threads.threads }) → IsWellFormed (record s { threads = record s.threads { threads = change_thread f t s.threads.threads } })
well_formed_change f t s h k =
    let same = wait_rule s.mutexes in
    record {
      threads = k;
      conditions = (let waits_same = condition_rule in waits_same.same_waits s.threads (record s.threads { threads = change_thread f t s.threads.threads }) refl h.conditions);
      mutexes = same.same_waits s.threads (record s.threads { threads = change_thread f t s.threads.threads }) refl h.mutexes;
      barriers = barriers.well_formed_same s.threads (record s.threads { threads = change_thread f t s.threads.threads }) s.barriers refl h.barriers;
      rwlocks = locks.well_formed_same s.threads (record s.threads { threads = change_thread f t s.threads.threads }) s.rwlocks refl h.rwlocks;
      running = λ e. any_live_change f t s.threads.threads (h.running e);
      deadlines = h.deadlines;
      readers = h.readers;
      clock = h.clock;
      input = h.input;
      fault = λ u pc c e. kept_at is_live_thread f s.threads.threads t u (live_change f) ∙ h.fault u pc c e;
      fault_pc = h.fault_pc;
    }

-- a thread that has not ended faults
pub well_formed_fault : (t pc : ℕ) (c : Cause) (s : Tables) → threads.is_live s.threads t ≡ true → pc % 4 ≡ 0 → IsWellFormed s → IsWellFormed (record s { status = Faulted t pc c })
well_formed_fault t pc c s l a h = record {
  threads = h.threads;
  mutexes = h.mutexes;
  conditions = h.conditions;
  barriers = h.barriers;
  rwlocks = h.rwlocks;
  running = λ e. absurd (cc);
  deadlines = λ e. absurd (cc);
  readers = h.readers;
  clock = h.clock;
  input = h.input;
  fault = λ u q d e. (let same : t ≡ u = cc in subst (λ (x : ℕ). threads.is_live s.threads x ≡ true) same l);
  fault_pc = λ u q d e. (let same : pc ≡ q = cc in subst (λ (x : ℕ). x % 4 ≡ 0) same a);
}

-- WHAT CALLS DO

-- the program exits
pub well_formed_exited : (s : Tables) (v : ℕ) → IsWellFormed s → IsWellFormed (record s { status = Exited v })
well_formed_exited s v h = record {
  threads = h.threads;
  mutexes = h.mutexes;
  conditions = h.conditions;
  barriers = h.barriers;
  rwlocks = h.rwlocks;
  running = λ e. absurd (cc);
  deadlines = λ e. absurd (cc);
  readers = h.readers;
  clock = h.clock;
  input = h.input;
  fault = λ u pc c f. absurd (cc);
  fault_pc = λ u pc c f. absurd (cc);
}

-- a thread ended, and perhaps the program
ended : (b : Bool) (t : ℕ) (s : Tables) (z : threads.State) → is_any_live z ≡ b → MayCall t s → threads.IsWellFormed z → IsWellFormedWith z s.mutexes → conditions.IsWellFormed z → SameQueues s.threads z → AllWaits (ahead s) z → AllWaits (lacks s) z → IsWellFormed (record s { threads = z; status = status_with b s.status })
ended true t s z n m k l j o d r = changed t s z s.mutexes m (record { threads = k; mutexes = l; conditions = j; others = o; live = n; deadlines = d; readers = r })
ended false t s z n m k l j o d r = (let h = m.well_formed in record {
  threads = k;
  mutexes = l;
  conditions = j;
  barriers = barriers_same s.threads z s.barriers o h.barriers;
  rwlocks = locks_same s.threads z s.rwlocks o h.rwlocks;
  running = λ e. absurd (cc);
  deadlines = λ e. absurd (cc);
  readers = r;
  clock = h.clock;
  input = h.input;
  fault = λ u pc c f. absurd (cc);
  fault_pc = λ u pc c f. absurd (cc);
})

-- a thread unwinds, which leaves the threads z
record Unwinds (s : Tables) (z : threads.State) : Type 0 where
  threads : threads.IsWellFormed z
  mutexes : IsWellFormedWith z s.mutexes
  conditions : conditions.IsWellFormed z
  others : SameQueues s.threads z
  deadlines : AllWaits (ahead s) z
  readers : AllWaits (lacks s) z

unwinds : (t : ℕ) (s : Tables) (z : threads.State) → MayCall t s → Unwinds s z → IsWellFormed (by_unwinding s z)
unwinds t s z m u = ended (is_any_live z) t s z refl m u.threads u.mutexes u.conditions u.others u.deadlines u.readers

-- the thread goes to its next handler
pub well_formed_unwound : (t : ℕ) (s : Tables) → MayCall t s → IsWellFormed (unwound t s)
well_formed_unwound t s m = unwinds t s (next_handler t s.threads) m (record {
  threads = well_formed_next t s.threads m.well_formed.threads m.live m.free;
  mutexes = rows.kept_next (wait_rule s.mutexes) t s.threads m.well_formed.mutexes;
  conditions = rows.kept_next condition_rule t s.threads m.well_formed.conditions;
  others = λ o p. queues.next o p t s.threads m.well_formed.threads;
  deadlines = rows.kept_next (ahead_rule s) t s.threads (all_ahead t s m);
  readers = rows.kept_next (lacks_rule s) t s.threads (all_lack t s m);
})

-- the thread begins to unwind
pub well_formed_begun : (t v : ℕ) (s : Tables) → MayCall t s → IsWellFormed (begun_unwind t v s)
well_formed_begun t v s m = unwinds t s (begin_unwind t v s.threads) m (record {
  threads = threads_begin_unwind t s.threads m.well_formed.threads m.live m.free v;
  mutexes = rows.kept_begun (wait_rule s.mutexes) t v s.threads m.well_formed.mutexes;
  conditions = rows.kept_begun condition_rule t v s.threads m.well_formed.conditions;
  others = λ o p. queues.begin o p t v s.threads m.well_formed.threads;
  deadlines = rows.kept_begun (ahead_rule s) t v s.threads (all_ahead t s m);
  readers = rows.kept_begun (lacks_rule s) t v s.threads (all_lack t s m);
})

-- the thread acts on a request
pub well_formed_acted : (t : ℕ) (s : Tables) → MayCall t s → IsWellFormed (acted t s)
well_formed_acted t s m = unwinds t s (act_on_request t s.threads) m (record {
  threads = threads_act_on_request t s.threads m.well_formed.threads m.live m.free;
  mutexes = rows.kept_acted (wait_rule s.mutexes) t s.threads m.well_formed.mutexes;
  conditions = rows.kept_acted condition_rule t s.threads m.well_formed.conditions;
  others = λ o p. queues.act o p t s.threads m.well_formed.threads;
  deadlines = rows.kept_acted (ahead_rule s) t s.threads (all_ahead t s m);
  readers = rows.kept_acted (lacks_rule s) t s.threads (all_lack t s m);
})
