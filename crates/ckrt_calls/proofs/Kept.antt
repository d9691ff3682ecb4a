-- Each call keeps the rules of the tables.
use Rattle.std.proofs.Common.{ℕ, Option, Some, None}
use Rattle.ckrt_registers.specs.Registers.{Registers}
use Rattle.ckrt_registers.specs.Registers.{get}
use Rattle.ckrt_thread.specs.State as threads
use Rattle.ckrt_calls.specs.declared.table.Tables.{Tables}
use Rattle.ckrt_calls.specs.WellFormed.{IsWellFormed}
use Rattle.ckrt_calls.specs.declared.number.Call.{Call}
use Rattle.ckrt_calls.specs.declared.number.Call.TheVariants as call
use Rattle.ckrt_calls.specs.Table.{After, row, acts_at, row_or_unknown, called_with, called, call_of}
use Rattle.ckrt_calls.proofs.Choices.{choice}
use Rattle.ckrt_calls.proofs.KeptThreads.{kept_thread}
use Rattle.ckrt_calls.proofs.KeptMutexes.{kept_mutex}
use Rattle.ckrt_calls.proofs.KeptConditions.{kept_condition}
use Rattle.ckrt_calls.proofs.KeptBarriers.{kept_barrier}
use Rattle.ckrt_calls.proofs.KeptRwLocks.{kept_rwlock}
use Rattle.ckrt_calls.proofs.KeptCancellation.{kept_cancellation}
use Rattle.ckrt_calls.proofs.KeptKeys.{kept_key}
use Rattle.ckrt_calls.proofs.KeptInput.{kept_process}
pub use Rattle.ckrt_calls.specs.Calling.{MayCall}
pub use Rattle.ckrt_calls.proofs.KeptEnds.{well_formed_change, well_formed_fault, well_formed_exited, well_formed_acted, well_formed_unwound, well_formed_begun}

kept_row : (c : Call) (t : ℕ) (r : Registers) (s : Tables) → MayCall t s → IsWellFormed (row c t r s).tables
kept_row (call.Process c) t r s m = kept_process c t r s m
kept_row (call.Thread c) t r s m = kept_thread c t r s m
kept_row (call.Mutex c) t r s m = kept_mutex c t r s m
kept_row (call.Condition c) t r s m = kept_condition c t r s m
kept_row (call.Barrier c) t r s m = kept_barrier c t r s m
kept_row (call.RwLock c) t r s m = kept_rwlock c t r s m
kept_row (call.Cancellation c) t r s m = kept_cancellation c t r s m
kept_row (call.Key c) t r s m = kept_key c t r s m

kept_row_or_unknown : (o : Option Call) (t : ℕ) (r : Registers) (s : Tables) → MayCall t s → IsWellFormed (row_or_unknown o t r s).tables
kept_row_or_unknown None t r s m = m.well_formed
kept_row_or_unknown (Some c) t r s m = choice {A = After} (λ x. IsWellFormed x.tables) (acts_at c t s) _ _ (well_formed_acted t s m) (kept_row c t r s m)

kept_called : (o : Option Registers) (t : ℕ) (s : Tables) → MayCall t s → IsWellFormed (called_with o t s).tables
kept_called None t s m = m.well_formed
kept_called (Some r) t s m = kept_row_or_unknown (call_of (get r 17)) t r s m

-- a call is made
pub well_formed_called : (t : ℕ) (s : Tables) → MayCall t s → IsWellFormed (called t s).tables
well_formed_called t s m = kept_called (threads.regs_of (threads.thread_of s.threads t)) t s m
