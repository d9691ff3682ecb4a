-- Quiet steps, which call nothing and change no wait, and such steps in a row (this project's choice).
use Rattle.std.specs.Prelude.{◌≡◌, ◌⊎◌, ◌≤◌, ◌<◌, ℕ, ◌==◌, ◌&&◌, not, Bool, true, false, if◌then◌else◌, Option, Some, None, is_some, List}
use Rattle.ckrt_registers.specs.Registers.{Registers}
use Rattle.ckrt_rv32i.specs.Memory.{is_valid, loaded}
use Rattle.ckrt_rv32i.specs.declared.memory_bus.Size.TheVariants as size
use Rattle.ckrt_memory.specs.Reasons.{Meets}
use Rattle.ckrt_thread.specs.Abi.{RETURN_GATE, UNWIND_GATE}
use Rattle.ckrt_thread.specs.Cancellation.{is_immediate}
use Rattle.ckrt_thread.specs.State as threads
use Rattle.ckrt_thread.specs.declared.records.Live.{Live}
use Rattle.ckrt_thread.specs.declared.records.Thread.{Thread}
use Rattle.ckrt_thread.specs.declared.records.Thread.TheVariants as thread
use Rattle.ckrt_machine.specs.Events.{Machine}
use Rattle.ckrt_machine.specs.Runs.{after_steps, stop_after}
use Rattle.ckrt_machine.specs.RunsTo.{meets_after}
use Rattle.ckrt_machine.specs.Steps.{State, hart_of}

-- A QUIET STEP

-- the ECALL instruction stands at an address
abbrev pub is_ecall_at : List ℕ → ℕ → Bool
is_ecall_at bytes pc = is_valid bytes pc size.Word && loaded bytes pc size.Word == 0x73

-- a step of a thread that is neither a call, nor a return to a gate, nor acts on a request: it changes no wait
abbrev pub is_plain : Live → List ℕ → Bool
is_plain l bytes =
    not (l.regs.pc == RETURN_GATE) && (not (l.regs.pc == UNWIND_GATE)
    && (not (is_immediate l.cancellation) && not (is_ecall_at bytes l.regs.pc)))

abbrev pub is_plain_of : Option Thread → List ℕ → Bool
is_plain_of None bytes = true
is_plain_of (Some (thread.Ended v)) bytes = true
is_plain_of (Some (thread.Live l)) bytes = is_plain l bytes

-- the same of who is on a hart
abbrev pub is_quiet : Option ℕ → State → Bool
is_quiet None s = true
is_quiet (Some t) s = is_plain_of (threads.thread_of s.tables.threads t) s.bytes

-- STEPS IN A ROW

-- the next step is quiet behind k steps of the thread on hart h
abbrev pub is_quiet_after : (k h : ℕ) → State → List ℕ → Bool
is_quiet_after k h s out =
    is_quiet (hart_of (after_steps k h s out).state.tables h) (after_steps k h s out).state

-- A machine made some quiet steps of the thread on hart h, of `limit` at most, up to the first that isn't quiet, or to the end of the run.
pub record GoesQuietly (limit made h : ℕ) (old new : Machine) : Type 0 where
  pub within : made ≤ limit
  pub state : new.state ≡ (after_steps made h old.state old.output).state
  pub output : new.output ≡ (after_steps made h old.state old.output).output
  pub goes_on : (k : ℕ) → k < made → stop_after k h old.state old.output ≡ None
  pub quiet : (k : ℕ) → k < made → is_quiet_after k h old.state old.output ≡ true
  pub ended : made < limit → (is_some (stop_after made h old.state old.output) ≡ true)
      ⊎ (is_quiet_after made h old.state old.output ≡ false)

-- WHICH STEPS AREN'T QUIET

-- as far as registers and bytes tell: the pc is at a gate, or the word of ECALL is next
abbrev pub is_at_gate : ℕ → Bool
is_at_gate pc = if pc == RETURN_GATE then true else pc == UNWIND_GATE

abbrev pub calls_next : Meets
calls_next r m = if is_ecall_at m r.pc then true else is_at_gate r.pc

-- the thread acts on a request by its next step
abbrev pub acts_first : Option Thread → Bool
acts_first None = false
acts_first (Some (thread.Ended v)) = false
acts_first (Some (thread.Live l)) = is_immediate l.cancellation

-- the same of who is on a hart
abbrev pub acts_next : Option ℕ → State → Bool
acts_next None s = false
acts_next (Some t) s = acts_first (threads.thread_of s.tables.threads t)

-- who is on a hart, if it acts on no request by its next step
abbrev pub calm_of : Option ℕ → State → Option ℕ
calm_of o s = if acts_next o s then None else o

-- thread t is on hart h, hasn't ended, and acts on no request
pub record IsCalm (h t : ℕ) (s : State) : Type 0 where
  pub on : hart_of s.tables h ≡ Some t
  pub live : Live
  pub is : threads.thread_of s.tables.threads t ≡ Some (thread.Live live)
  pub idle : is_immediate live.cancellation ≡ false

-- whoever is on a hart hasn't ended
abbrev pub IsLiveOn : (h : ℕ) → State → Type 0
IsLiveOn h s = (t : ℕ) → hart_of s.tables h ≡ Some t → threads.is_live s.tables.threads t ≡ true

-- WITH A REASON TO STOP

-- a reason that is met before each call and at each gate
abbrev pub IsMetAtCalls : Meets → Type 0
IsMetAtCalls meets = (r : Registers) (m : List ℕ) → calls_next r m ≡ true → meets r m ≡ true

-- the same reason, and one before each call and at each gate
abbrev pub or_call : Meets → Meets
or_call meets r m = if calls_next r m then true else meets r m

-- A machine made some quiet steps, before each of which the reason wasn't met, up to the first before which it is, or that isn't quiet, or to the
-- end of the run.
pub record GoesQuietlyTo (meets : Meets) (limit made h : ℕ) (old new : Machine) : Type 0 where
  pub within : made ≤ limit
  pub state : new.state ≡ (after_steps made h old.state old.output).state
  pub output : new.output ≡ (after_steps made h old.state old.output).output
  pub goes_on : (k : ℕ) → k < made → stop_after k h old.state old.output ≡ None
  pub quiet : (k : ℕ) → k < made → is_quiet_after k h old.state old.output ≡ true
  pub unmet : (k : ℕ) → k < made → meets_after meets k h old.state old.output ≡ false
  pub ended : made < limit → (is_some (stop_after made h old.state old.output) ≡ true)
      ⊎ ((meets_after meets made h old.state old.output ≡ true)
      ⊎ (is_quiet_after made h old.state old.output ≡ false))
