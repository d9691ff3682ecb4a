-- Runs that end where there is a reason to stop (this project's choice).
use Rattle.std.specs.Prelude.{◌≡◌, ◌⊎◌, ◌≤◌, ◌<◌, ◌+◌, ℕ, zero, suc, Bool, true, false, if◌then◌else◌, Option, Some, None, List}
use Rattle.ckrt_registers.specs.Registers.{Registers}
use Rattle.ckrt_memory.specs.Reasons.{Meets}
use Rattle.ckrt_thread.specs.State.{regs_of, thread_of}
use Rattle.ckrt_machine.specs.declared.event.RunEnd.{RunEnd}
use Rattle.ckrt_machine.specs.declared.event.RunEnd.TheVariants.{On}
use Rattle.ckrt_machine.specs.Steps.{State, Stepped, hart_of, hart_step}
use Rattle.ckrt_machine.specs.Runs.{Stepping, after_steps, stop_after, stop_of, with_byte}

-- the reason is met with these registers and these bytes; or there are no registers
abbrev pub meets_with : Meets → Option Registers → List ℕ → Bool
meets_with meets None m = true
meets_with meets (Some r) m = meets r m

abbrev pub meets_for : Meets → Option ℕ → State → Bool
meets_for meets None s = true
meets_for meets (Some t) s = meets_with meets (regs_of (thread_of s.tables.threads t)) s.bytes

-- the reason is met with the registers of the thread on hart h and the bytes; or nobody is there, as never while a run goes on
abbrev pub meets_on : Meets → ℕ → State → Bool
meets_on meets h s = meets_for meets (hart_of s.tables h) s

-- what such a run leaves: how many of its steps it didn't make, how it ended, or none where the reason is met, the state, and the
-- bytes put
pub record RanTo : Type 0 where
  pub left : ℕ
  pub how : Option RunEnd
  pub state : State
  pub output : List ℕ

-- the reason is met before k steps more of the thread on hart h, where the bytes out were put before
abbrev pub meets_after : Meets → (k h : ℕ) → State → List ℕ → Bool
meets_after meets k h s out = meets_on meets h (after_steps k h s out).state

-- how a run to the reason ended after m of its n steps: before the next one the reason is met, the last of them ended the run,
-- or all were made
pub record IsMet (meets : Meets) (n m h : ℕ) (from : Stepping) : Type 0 where
  pub some : m < n
  pub met : meets_after meets m h from.state from.output ≡ true
  pub going : 1 ≤ m → stop_after m h from.state from.output ≡ None

abbrev pub Ended : (n m h : ℕ) → Stepping → RunEnd → Type 0
Ended n m h from how =
    ((1 ≤ m) × (stop_after m h from.state from.output ≡ Some how))
    ⊎ ((m ≡ n) × (how ≡ On) × (1 ≤ m → stop_after m h from.state from.output ≡ None))

abbrev pub EndedBy : Meets → (n m h : ℕ) → Stepping → Option RunEnd → Type 0
EndedBy meets n m h from None = IsMet meets n m h from
EndedBy meets n m h from (Some how) = Ended n m h from how

-- a run to the reason, of at most n steps of the thread on hart h, made m of them
pub record HasMadeTo (meets : Meets) (n m h : ℕ) (from : Stepping) (ran : RanTo) : Type 0 where
  pub count : ran.left + m ≡ n
  -- it is where that many steps lead
  pub state : ran.state ≡ (after_steps m h from.state from.output).state
  pub output : ran.output ≡ (after_steps m h from.state from.output).output
  -- the reason wasn't met before any of them, and nothing ended the run after fewer
  pub unmet : (k : ℕ) → k < m → meets_after meets k h from.state from.output ≡ false
  pub goes_on : (k : ℕ) → 1 ≤ k → k < m → stop_after k h from.state from.output ≡ None
  pub ended : EndedBy meets n m h from ran.how

-- THE SAME, STEP BY STEP

abbrev pub stopped_to : (ℕ → State → List ℕ → RanTo) → Option RunEnd → ℕ → ℕ → State → List ℕ → RanTo
stopped_to more None n h s out = more h s out
stopped_to more (Some w) n h s out =
    record { left = n; how = Some w; state = s; output = out }

-- what follows a step, where n more may come
abbrev pub continued_to : (ℕ → State → List ℕ → RanTo) → ℕ → ℕ → List ℕ → Stepped → RanTo
continued_to more n h out e =
    stopped_to more (stop_of h e.state.tables (with_byte e.put out)) n h e.state
    (with_byte e.put out)

abbrev pub run_to : Meets → ℕ → ℕ → State → List ℕ → RanTo
run_to meets zero h s out = record { left = 0; how = Some On; state = s; output = out }
run_to meets (suc n) h s out =
    if meets_on meets h s then record { left = suc n; how = None; state = s; output = out }
    else continued_to (run_to meets n) n h out (hart_step h s)
