-- Each step of a hart keeps the tables well-formed.
use Rattle.std.proofs.Common.{◌≡◌, ℕ, zero, suc, ◌%◌, ◌==◌, nat_le, cond, List, length, Bool, true, false, is_some, is_none, Option, Some, None, IfSome, sym, ap, arith, refl, ◌∙◌}
use Rattle.std.proofs.lemmas.Bool.Decides.{nat_tests}
use Rattle.ckrt_registers.specs.Registers.{Registers}
use Rattle.ckrt_registers.specs.Registers.{get}
use Rattle.ckrt_rv32i.specs.Effect.{instruction_step}
use Rattle.ckrt_rv32i.specs.declared.execution.Outcome.{Outcome}
use Rattle.ckrt_rv32i.specs.declared.execution.Outcome.TheVariants.{Next, Call, Fault}
use Rattle.ckrt_rv32i.specs.declared.execution.Cause.TheVariants as cause
use Rattle.ckrt_thread.specs.declared.records.CallResult.{CallResult}
use Rattle.ckrt_thread.specs.declared.records.CallResult.TheVariants as result
use Rattle.ckrt_thread.specs.declared.records.Thread.{Thread}
use Rattle.ckrt_thread.specs.declared.records.Thread.TheVariants as thread
use Rattle.ckrt_thread.specs.declared.records.Live.{Live}
use Rattle.ckrt_thread.specs.Abi.{A0, RETURN_GATE, UNWIND_GATE}
use Rattle.ckrt_thread.specs.Cancellation.{is_immediate}
use Rattle.ckrt_thread.specs.State as threads
use Rattle.ckrt_thread.specs.State.{is_live_thread, is_aligned, is_proper_slot}
use Rattle.ckrt_thread.proofs.SlotLemmas.{kept_at, live_change}
use Rattle.ckrt_thread.proofs.Changes as changes
use Rattle.ckrt_calls.specs.declared.table.Status.{Status}
use Rattle.ckrt_calls.specs.declared.table.Status.TheVariants.{Running, Exited, Faulted}
use Rattle.ckrt_calls.specs.declared.table.Tables.{Tables}
use Rattle.ckrt_calls.specs.WellFormed.{IsWellFormed}
use Rattle.ckrt_calls.specs.Table as calls
use Rattle.ckrt_calls.proofs.Kept.{MayCall, well_formed_change, well_formed_fault, well_formed_exited, well_formed_called, well_formed_acted, well_formed_unwound, well_formed_begun}
use Rattle.ckrt_machine.specs.declared.event.RunEnd.{RunEnd}
use Rattle.ckrt_machine.specs.declared.event.RunEnd.TheVariants.{On, Off, End}
use Rattle.ckrt_machine.specs.Steps.{State, Stepped, hart_of, with_regs, with_result, called, performed, returned, handled, thread_step, slot_step, step_of, hart_step}
use Rattle.ckrt_machine.specs.Runs.{Ran, is_running, stop_of, stopped, run_on, with_byte}
use Rattle.ckrt_machine.proofs.EffectLaws.{aligned_step}
use Rattle.ckrt_machine.proofs.WellFormedImplies.{ready_on_hart}

abbrev Kept : Stepped → Type 0
Kept e = IsWellFormed e.state.tables

either : (b : Bool) (x y : Stepped) → Kept x → Kept y → Kept (cond b x y)
either true x y p q = p
either false x y p q = q

-- THE INSTRUCTION

-- the registers of a thread change, and its pc is a multiple of 4
kept_regs : (t : ℕ) (r : Registers) (s : Tables) → r.pc % 4 ≡ 0 → IsWellFormed s → IsWellFormed (with_regs t r s)
kept_regs t r s a h =
    let aligned : is_aligned r ≡ true = grind (arith, nat_tests) in
    well_formed_change (threads.with_regs r) t s h (changes.well_formed_change s.threads (threads.with_regs r) t (changes.changes_regs r aligned) h.threads)

may_call_on : (t : ℕ) (r : Registers) (s : Tables) → r.pc % 4 ≡ 0 → MayCall t s → MayCall t (with_regs t r s)
may_call_on t r s a m = record {
  live = kept_at is_live_thread (threads.with_regs r) s.threads.threads t t (live_change (threads.with_regs r)) ∙ m.live;
  free = m.free;
  running = m.running;
  well_formed = kept_regs t r s a m.well_formed;
}

kept_result : (x : CallResult) (t : ℕ) (s : Tables) → IsWellFormed s → IsWellFormed (with_result x t s)
kept_result (result.Done v) t s h = well_formed_change (threads.with_word A0 v) t s h (changes.well_formed_word s.threads t A0 v h.threads)
kept_result result.Blocked t s h = h
kept_result result.Moved t s h = h

kept_call : (t : ℕ) (m : List ℕ) (s : Tables) → MayCall t s → Kept (called t m (calls.called t s))
kept_call t m s k = kept_result (calls.called t s).result t (calls.called t s).tables (well_formed_called t s k)

kept_performed : (o : Outcome) (t : ℕ) (r : Registers) (m : List ℕ) (s : State) → r.pc % 4 ≡ 0 → MayCall t s.tables → Kept (performed o t r m s)
kept_performed Next t r m s a k = kept_regs t r s.tables a k.well_formed
kept_performed Call t r m s a k = kept_call t m (with_regs t r s.tables) (may_call_on t r s.tables a k)
kept_performed (Fault c) t r m s a k = well_formed_fault t r.pc c s.tables k.live a k.well_formed

-- THE GATES

kept_returned : (initial : Bool) (v t : ℕ) (s : State) → MayCall t s.tables → Kept (returned initial v t s)
kept_returned true v t s k = well_formed_exited s.tables v k.well_formed
kept_returned false v t s k = well_formed_begun t v s.tables k

kept_handled : (unwinds : Bool) (pc t : ℕ) (s : State) → pc % 4 ≡ 0 → MayCall t s.tables → Kept (handled unwinds pc t s)
kept_handled true pc t s a k = well_formed_unwound t s.tables k
kept_handled false pc t s a k = well_formed_fault t pc cause.Gate s.tables k.live a k.well_formed

-- A STEP OF A HART

-- the pc of a thread that has not ended is a multiple of 4
aligned_pc : (t : ℕ) (l : Live) (s : threads.State) → threads.thread_of s t ≡ Some (thread.Live l) → threads.IsWellFormed s → l.regs.pc % 4 ≡ 0
aligned_pc t l s e h =
    let proper : is_proper_slot (Some (thread.Live l)) ≡ true = ap is_proper_slot (sym e) ∙ h.proper t in
    grind (arith, nat_tests)

kept_thread : (l : Live) (t : ℕ) (s : State) → threads.thread_of s.tables.threads t ≡ Some (thread.Live l) → MayCall t s.tables → Kept (thread_step l t s)
kept_thread l t s e k =
    let a = aligned_pc t l s.tables.threads e k.well_formed.threads in
    either (is_immediate l.cancellation) _ _ (well_formed_acted t s.tables k)
    (either (l.regs.pc == RETURN_GATE) _ _ (kept_returned l.initial (get l.regs A0) t s k)
    (either (l.regs.pc == UNWIND_GATE) _ _ (kept_handled (is_some l.cancellation.unwinding) l.regs.pc t s a k)
    (kept_performed (instruction_step l.regs s.bytes).outcome t (instruction_step l.regs s.bytes).registers (instruction_step l.regs s.bytes).bytes s (aligned_step l.regs s.bytes a) k)))

kept_slot : (o : Option Thread) (t : ℕ) (s : State) → threads.thread_of s.tables.threads t ≡ o → MayCall t s.tables → Kept (slot_step o t s)
kept_slot None t s e k = k.well_formed
kept_slot (Some (thread.Ended v)) t s e k = k.well_formed
kept_slot (Some (thread.Live l)) t s e k = kept_thread l t s e k

-- who is on a hart has not ended and does not wait
kept_on : (o : Option ℕ) (s : State) → s.tables.status ≡ Running → IsWellFormed s.tables → IfSome o (λ t. (threads.is_live s.tables.threads t ≡ true) × (threads.is_waiting s.tables.threads t ≡ false)) → Kept (step_of o s)
kept_on None s r w i = w
kept_on (Some t) s r w i = kept_slot (threads.thread_of s.tables.threads t) t s refl (record { live = i.0; free = i.1; running = r; well_formed = w })

pub well_formed_hart_step : (h : ℕ) (s : State) → s.tables.status ≡ Running → IsWellFormed s.tables → IsWellFormed (hart_step h s).state.tables
well_formed_hart_step h s r w = kept_on (hart_of s.tables h) s r w (ready_on_hart s.tables h w)

-- A RUN

pub running_is : (x : Status) → is_running x ≡ true → x ≡ Running
running_is Running e = refl
running_is (Exited v) e = absurd (cc)
running_is (Faulted t p c) e = absurd (cc)

-- a run that goes on is one of a program that runs
going_runs : (h : ℕ) (s : Tables) (out : List ℕ) → stop_of h s out ≡ None → s.status ≡ Running
going_runs h s out e =
    running_is s.status (elim (is_running s.status) as (λ b. cond b (cond (is_none (hart_of s h)) (Some Off) (cond (nat_le 1024 (length out)) (Some On) None)) (Some End) ≡ None → b ≡ true) [
      | true ↦ λ x. refl
      | false ↦ λ x. absurd (cc)
    ] e)

abbrev KeptRun : Ran → Type 0
KeptRun r = IsWellFormed r.state.tables

kept_stopped : (more : ℕ → State → List ℕ → Ran) (o : Option RunEnd) (n h : ℕ) (s : State) (out : List ℕ) → stop_of h s.tables out ≡ o → IsWellFormed s.tables → ((z : State) (q : List ℕ) → z.tables.status ≡ Running → IsWellFormed z.tables → KeptRun (more h z q)) → KeptRun (stopped more o n h s out)
kept_stopped more None n h s out e w k = k s out (going_runs h s.tables out e) w
kept_stopped more (Some x) n h s out e w k = w

pub well_formed_run : (n h : ℕ) (s : State) (out : List ℕ) → s.tables.status ≡ Running → IsWellFormed s.tables → IsWellFormed (run_on n h s out).state.tables
well_formed_run zero h s out r w = w
well_formed_run (suc n) h s out r w =
    kept_stopped (run_on n) (stop_of h (hart_step h s).state.tables (with_byte (hart_step h s).put out)) n h (hart_step h s).state (with_byte (hart_step h s).put out) refl (well_formed_hart_step h s r w) (λ z q x y. well_formed_run n h z q x y)
