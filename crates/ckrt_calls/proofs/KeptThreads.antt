-- The calls on threads keep the rules of the tables.
use Rattle.std.proofs.Common.{ℕ}
use Rattle.ckrt_registers.specs.Registers.{Registers}
use Rattle.ckrt_registers.specs.Registers.{get}
use Rattle.ckrt_thread.specs.Rows.{create_row, join_row, detach_row}
use Rattle.ckrt_thread.proofs.RowsKept.{well_formed_create, well_formed_join, well_formed_detach}
use Rattle.ckrt_calls.specs.declared.table.Tables.{Tables}
use Rattle.ckrt_calls.specs.WellFormed.{IsWellFormed}
use Rattle.ckrt_calls.specs.declared.number.ThreadCall.{ThreadCall}
use Rattle.ckrt_calls.specs.declared.number.ThreadCall.TheVariants as thread_call
use Rattle.ckrt_calls.specs.Table.{thread_row}
use Rattle.ckrt_calls.specs.Calling.{MayCall}
use Rattle.ckrt_calls.proofs.ThreadRows as rows
use Rattle.ckrt_calls.proofs.ThreadRows.{any_live_create, any_live_join, any_live_detach}
use Rattle.ckrt_calls.proofs.Queues as queues
use Rattle.ckrt_calls.proofs.MutexRows.{wait_rule, condition_rule}
use Rattle.ckrt_calls.proofs.Calling.{some_live, all_ahead, all_lack, ahead_rule, lacks_rule, IsAfter, changed}
use Rattle.ckrt_calls.proofs.KeptEnds.{well_formed_begun}

kept_create : (t a b c d : ℕ) (s : Tables) → MayCall t s → IsAfter s (create_row t a b c d s.threads).threads s.mutexes
kept_create t a b c d s m = record {
  threads = well_formed_create t s.threads m.well_formed.threads a b c d;
  mutexes = rows.kept_create (wait_rule s.mutexes) t a b c d s.threads m.well_formed.mutexes;
  conditions = rows.kept_create condition_rule t a b c d s.threads m.well_formed.conditions;
  others = λ o p. queues.create o p t a b c d s.threads;
  live = any_live_create t a b c d s.threads (some_live t s m);
  deadlines = rows.kept_create (ahead_rule s) t a b c d s.threads (all_ahead t s m);
  readers = rows.kept_create (lacks_rule s) t a b c d s.threads (all_lack t s m);
}

kept_join : (t i : ℕ) (s : Tables) → MayCall t s → IsAfter s (join_row t i s.threads).threads s.mutexes
kept_join t i s m = record {
  threads = well_formed_join t s.threads m.well_formed.threads i m.live m.free;
  mutexes = rows.kept_join (wait_rule s.mutexes) t i s.threads m.well_formed.mutexes;
  conditions = rows.kept_join condition_rule t i s.threads m.well_formed.conditions;
  others = λ o p. queues.join o p t i s.threads;
  live = any_live_join t i s.threads (some_live t s m);
  deadlines = rows.kept_join (ahead_rule s) t i s.threads (all_ahead t s m);
  readers = rows.kept_join (lacks_rule s) t i s.threads (all_lack t s m);
}

kept_detach : (t i : ℕ) (s : Tables) → MayCall t s → IsAfter s (detach_row i s.threads).threads s.mutexes
kept_detach t i s m = record {
  threads = well_formed_detach s.threads m.well_formed.threads i;
  mutexes = rows.kept_detach (wait_rule s.mutexes) i s.threads m.well_formed.mutexes;
  conditions = rows.kept_detach condition_rule i s.threads m.well_formed.conditions;
  others = λ o p. queues.detach o p i s.threads;
  live = any_live_detach i s.threads (some_live t s m);
  deadlines = rows.kept_detach (ahead_rule s) i s.threads (all_ahead t s m);
  readers = rows.kept_detach (lacks_rule s) i s.threads (all_lack t s m);
}

pub kept_thread : (c : ThreadCall) (t : ℕ) (r : Registers) (s : Tables) → MayCall t s → IsWellFormed (thread_row c t r s).tables
kept_thread thread_call.Create t r s m = changed t s _ _ m (kept_create t (get r 10) (get r 11) (get r 12) (get r 13) s m)
kept_thread thread_call.Join t r s m = changed t s _ _ m (kept_join t (get r 10) s m)
kept_thread thread_call.Detach t r s m = changed t s _ _ m (kept_detach t (get r 10) s m)
kept_thread thread_call.Exit t r s m = well_formed_begun t (get r 10) s m
kept_thread thread_call.SelfId t r s m = m.well_formed
