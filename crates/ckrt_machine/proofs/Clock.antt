-- The clock goes on by ticks alone: no call and no other event changes it.
use Rattle.std.proofs.Common.{◌≡◌, ◌+◌, ℕ, zero, suc, Bool, true, false, List, [], ◌∷◌, Option, Some, None, is_some, refl, ◌∙◌, arith}
use Rattle.ckrt_registers.specs.Registers.{Registers, get}
use Rattle.ckrt_rv32i.specs.Effect.{instruction_step}
use Rattle.ckrt_rv32i.specs.declared.execution.Outcome.{Outcome}
use Rattle.ckrt_rv32i.specs.declared.execution.Outcome.TheVariants as outcome
use Rattle.ckrt_thread.specs.declared.records.CallResult.{CallResult}
use Rattle.ckrt_thread.specs.declared.records.CallResult.TheVariants as result
use Rattle.ckrt_thread.specs.declared.records.Thread.{Thread}
use Rattle.ckrt_thread.specs.declared.records.Thread.TheVariants as thread
use Rattle.ckrt_thread.specs.declared.records.Live.{Live}
use Rattle.ckrt_thread.specs.declared.records.Reason.TheVariants as reason
use Rattle.ckrt_thread.specs.Abi.{A0}
use Rattle.ckrt_thread.specs.Errors.{EINVAL}
use Rattle.ckrt_thread.specs.State as threads
use Rattle.ckrt_calls.specs.declared.table.Tables.{Tables}
use Rattle.ckrt_calls.specs.declared.number.Call.{Call}
use Rattle.ckrt_calls.specs.declared.number.Call.TheVariants as call
use Rattle.ckrt_calls.specs.declared.number.ProcessCall.{ProcessCall}
use Rattle.ckrt_calls.specs.declared.number.ProcessCall.TheVariants as process_call
use Rattle.ckrt_calls.specs.declared.number.ThreadCall.{ThreadCall}
use Rattle.ckrt_calls.specs.declared.number.ThreadCall.TheVariants as thread_call
use Rattle.ckrt_calls.specs.declared.number.MutexCall.{MutexCall}
use Rattle.ckrt_calls.specs.declared.number.MutexCall.TheVariants as mutex_call
use Rattle.ckrt_calls.specs.declared.number.ConditionCall.{ConditionCall}
use Rattle.ckrt_calls.specs.declared.number.ConditionCall.TheVariants as condition_call
use Rattle.ckrt_calls.specs.declared.number.BarrierCall.{BarrierCall}
use Rattle.ckrt_calls.specs.declared.number.BarrierCall.TheVariants as barrier_call
use Rattle.ckrt_calls.specs.declared.number.RwLockCall.{RwLockCall}
use Rattle.ckrt_calls.specs.declared.number.RwLockCall.TheVariants as rwlock_call
use Rattle.ckrt_calls.specs.declared.number.CancellationCall.{CancellationCall}
use Rattle.ckrt_calls.specs.declared.number.CancellationCall.TheVariants as cancellation_call
use Rattle.ckrt_calls.specs.declared.number.KeyCall.{KeyCall}
use Rattle.ckrt_calls.specs.declared.number.KeyCall.TheVariants as key_call
use Rattle.ckrt_calls.specs.Table as calls
use Rattle.ckrt_events.specs.declared.event.Event.TheVariants.{Place, Run, Input, Eof, Tick, RunLong}
use Rattle.ckrt_machine.specs.declared.event.RunEnd.{RunEnd}
use Rattle.ckrt_machine.specs.Runs.{Ran, run_on, stopped}
use Rattle.ckrt_machine.specs.Steps.{State, Stepped, acted, hart_of, hart_step, handled, performed, returned, slot_step, step_of, thread_step, with_regs, with_result}
use Rattle.ckrt_machine.specs.Stays.{ClockGoesByTicks}
use Rattle.ckrt_machine.proofs.Fixed.{split, split_2, split_3}

-- CALLS

abbrev clock_of : calls.After → ℕ
clock_of r = r.tables.clock

getc : (bytes : List ℕ) (t : ℕ) (s : Tables) → clock_of (calls.getc_of bytes t s) ≡ s.clock
getc [] t s = split clock_of s.clock _ _ _ refl refl
getc (b ∷ bs) t s = refl

process_row : (c : ProcessCall) (t : ℕ) (r : Registers) (s : Tables) → clock_of (calls.process_row c t r s) ≡ s.clock
process_row process_call.Exit t r s = refl
process_row process_call.Putc t r s = refl
process_row process_call.Getc t r s = getc s.input t s
process_row process_call.Clock t r s = refl
process_row process_call.SleepUntil t r s =
    split_2 clock_of s.clock _ _ (calls.done EINVAL s) (calls.done 0 s) (calls.waits t reason.Sleep (Some (calls.moment_of (get r 10) (get r 11))) s) refl refl refl

thread_row : (c : ThreadCall) (t : ℕ) (r : Registers) (s : Tables) → clock_of (calls.thread_row c t r s) ≡ s.clock
thread_row thread_call.Create t r s = refl
thread_row thread_call.Join t r s = refl
thread_row thread_call.Detach t r s = refl
thread_row thread_call.Exit t r s = refl
thread_row thread_call.SelfId t r s = refl

mutex_row : (c : MutexCall) (t : ℕ) (r : Registers) (s : Tables) → clock_of (calls.mutex_row c t r s) ≡ s.clock
mutex_row mutex_call.Init t r s = refl
mutex_row mutex_call.Destroy t r s = refl
mutex_row mutex_call.Lock t r s = refl
mutex_row mutex_call.TryLock t r s = refl
mutex_row mutex_call.TimedLock t r s = refl
mutex_row mutex_call.Unlock t r s = refl

condition_row : (c : ConditionCall) (t : ℕ) (r : Registers) (s : Tables) → clock_of (calls.condition_row c t r s) ≡ s.clock
condition_row condition_call.Init t r s = refl
condition_row condition_call.Destroy t r s = refl
condition_row condition_call.Wait t r s = refl
condition_row condition_call.TimedWait t r s = refl
condition_row condition_call.Signal t r s = refl
condition_row condition_call.Broadcast t r s = refl

barrier_row : (c : BarrierCall) (t : ℕ) (r : Registers) (s : Tables) → clock_of (calls.barrier_row c t r s) ≡ s.clock
barrier_row barrier_call.Init t r s = refl
barrier_row barrier_call.Destroy t r s = refl
barrier_row barrier_call.Wait t r s = refl

rwlock_row : (c : RwLockCall) (t : ℕ) (r : Registers) (s : Tables) → clock_of (calls.rwlock_row c t r s) ≡ s.clock
rwlock_row rwlock_call.Init t r s = refl
rwlock_row rwlock_call.Destroy t r s = refl
rwlock_row rwlock_call.RdLock t r s = refl
rwlock_row rwlock_call.TryRdLock t r s = refl
rwlock_row rwlock_call.WrLock t r s = refl
rwlock_row rwlock_call.TryWrLock t r s = refl
rwlock_row rwlock_call.Unlock t r s = refl

cancellation_row : (c : CancellationCall) (t : ℕ) (r : Registers) (s : Tables) → clock_of (calls.cancellation_row c t r s) ≡ s.clock
cancellation_row cancellation_call.Cancel t r s = refl
cancellation_row cancellation_call.TestCancel t r s = refl
cancellation_row cancellation_call.SetCancelState t r s = refl
cancellation_row cancellation_call.SetCancelType t r s = refl
cancellation_row cancellation_call.CleanupPush t r s = refl
cancellation_row cancellation_call.CleanupPop t r s = refl

key_row : (c : KeyCall) (t : ℕ) (r : Registers) (s : Tables) → clock_of (calls.key_row c t r s) ≡ s.clock
key_row key_call.Create t r s = refl
key_row key_call.Delete t r s = refl
key_row key_call.SetSpecific t r s = refl
key_row key_call.GetSpecific t r s = refl

row : (c : Call) (t : ℕ) (r : Registers) (s : Tables) → clock_of (calls.row c t r s) ≡ s.clock
row (call.Process c) t r s = process_row c t r s
row (call.Thread c) t r s = thread_row c t r s
row (call.Mutex c) t r s = mutex_row c t r s
row (call.Condition c) t r s = condition_row c t r s
row (call.Barrier c) t r s = barrier_row c t r s
row (call.RwLock c) t r s = rwlock_row c t r s
row (call.Cancellation c) t r s = cancellation_row c t r s
row (call.Key c) t r s = key_row c t r s

or_unknown : (c : Option Call) (t : ℕ) (r : Registers) (s : Tables) → clock_of (calls.row_or_unknown c t r s) ≡ s.clock
or_unknown None t r s = refl
or_unknown (Some c) t r s = split clock_of s.clock _ _ _ refl (row c t r s)

called_with : (r : Option Registers) (t : ℕ) (s : Tables) → clock_of (calls.called_with r t s) ≡ s.clock
called_with None t s = refl
called_with (Some r) t s = or_unknown (calls.call_of (get r 17)) t r s

-- STEPS AND RUNS

with_result_of : (r : CallResult) (t : ℕ) (s : Tables) → (with_result r t s).clock ≡ s.clock
with_result_of (result.Done v) t s = refl
with_result_of result.Blocked t s = refl
with_result_of result.Moved t s = refl

abbrev of_step : Stepped → ℕ
of_step e = e.state.tables.clock

performs : (o : Outcome) (t : ℕ) (r : Registers) (m : List ℕ) (s : State) → of_step (performed o t r m s) ≡ s.tables.clock
performs outcome.Next t r m s = refl
performs outcome.Call t r m s =
    let z = with_regs t r s.tables in
    with_result_of (calls.called t z).result t (calls.called t z).tables ∙ called_with (threads.regs_of (threads.thread_of z.threads t)) t z
performs (outcome.Fault c) t r m s = refl

returns : (b : Bool) (t v : ℕ) (s : State) → of_step (returned b v t s) ≡ s.tables.clock
returns true t v s = refl
returns false t v s = refl

gates : (b : Bool) (pc t : ℕ) (s : State) → of_step (handled b pc t s) ≡ s.tables.clock
gates true pc t s = refl
gates false pc t s = refl

steps : (l : Live) (t : ℕ) (s : State) → of_step (thread_step l t s) ≡ s.tables.clock
steps l t s =
    let after = instruction_step l.regs s.bytes in
    split_3 of_step s.tables.clock _ _ _ (acted t s) (returned l.initial (get l.regs A0) t s) (handled (is_some l.cancellation.unwinding) l.regs.pc t s) (performed after.outcome t after.registers after.bytes s)
    refl (returns l.initial t (get l.regs A0) s) (gates (is_some l.cancellation.unwinding) l.regs.pc t s) (performs after.outcome t after.registers after.bytes s)

slot_steps : (o : Option Thread) (t : ℕ) (s : State) → of_step (slot_step o t s) ≡ s.tables.clock
slot_steps None t s = refl
slot_steps (Some (thread.Ended v)) t s = refl
slot_steps (Some (thread.Live l)) t s = steps l t s

step_by : (o : Option ℕ) (s : State) → of_step (step_of o s) ≡ s.tables.clock
step_by None s = refl
step_by (Some t) s = slot_steps (threads.thread_of s.tables.threads t) t s

stops : (more : ℕ → State → List ℕ → Ran) → ((h : ℕ) (s : State) (out : List ℕ) → (more h s out).state.tables.clock ≡ s.tables.clock)
    → (w : Option RunEnd) (n h : ℕ) (s : State) (out : List ℕ) → (stopped more w n h s out).state.tables.clock ≡ s.tables.clock
stops more same None n h s out = same h s out
stops more same (Some w) n h s out = refl

runs : (n h : ℕ) (s : State) (out : List ℕ) → (run_on n h s out).state.tables.clock ≡ s.tables.clock
runs zero h s out = refl
runs (suc n) h s out = stops (run_on n) (runs n) _ n h (hart_step h s).state _ ∙ step_by (hart_of s.tables h) s

-- EVENTS

no_ticks : (n : ℕ) → n ≡ n + 0
no_ticks n = omega arith

pub clock_goes_by_ticks : ClockGoesByTicks
clock_goes_by_ticks (Place h t) s = no_ticks s.tables.clock
clock_goes_by_ticks (Run h n) s = runs n h s [] ∙ no_ticks s.tables.clock
clock_goes_by_ticks (RunLong h n) s = runs n h s [] ∙ no_ticks s.tables.clock
clock_goes_by_ticks (Input bytes) s = no_ticks s.tables.clock
clock_goes_by_ticks Eof s = no_ticks s.tables.clock
clock_goes_by_ticks (Tick k) s = refl
