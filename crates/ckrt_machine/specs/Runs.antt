-- Steps of a hart, up to the end of a run.
use Rattle.std.specs.Prelude.{◌≡◌, ◌⊎◌, ◌≤◌, ◌<◌, ◌+◌, ℕ, zero, suc, nat_le, Bool, true, false, if◌then◌else◌, Option, Some, None, is_none, List, [], ◌∷◌, ◌++◌, length}
use Rattle.ckrt_calls.specs.declared.table.Status.{Status}
use Rattle.ckrt_calls.specs.declared.table.Status.TheVariants.{Running, Exited, Faulted}
use Rattle.ckrt_calls.specs.declared.table.Tables.{Tables}
use Rattle.ckrt_machine.specs.declared.event.RunEnd.{RunEnd}
use Rattle.ckrt_machine.specs.declared.event.RunEnd.TheVariants.{On, Off, End}
use Rattle.ckrt_machine.specs.Steps.{State, Stepped, hart_of, hart_step}

abbrev pub is_running : Status → Bool
is_running Running = true
is_running (Exited v) = false
is_running (Faulted t p c) = false

-- how many bytes a run puts at most: it ends with the step that puts the last of them
abbrev pub RUN_OUTPUT : ℕ
RUN_OUTPUT = 1024

-- what a run leaves: how many of its steps it didn't make, how it ended, the state, and the bytes put
pub record Ran : Type 0 where
  pub left : ℕ
  pub how : RunEnd
  pub state : State
  pub output : List ℕ

abbrev pub with_byte : Option ℕ → List ℕ → List ℕ
with_byte None out = out
with_byte (Some b) out = out ++ b ∷ []

-- whether a run ends after a step, and how: the program ended, the thread left the hart, or the 1,024th byte was put
abbrev pub stop_of : ℕ → Tables → List ℕ → Option RunEnd
stop_of h s out =
    if is_running s.status then
    (if is_none (hart_of s h) then Some Off
    else if nat_le RUN_OUTPUT (length out) then Some On
    else None)
    else Some End

abbrev pub stopped : (ℕ → State → List ℕ → Ran) → Option RunEnd → ℕ → ℕ → State → List ℕ → Ran
stopped more None n h s out = more h s out
stopped more (Some w) n h s out = record { left = n; how = w; state = s; output = out }

-- what follows a step, where n more may come
abbrev pub continued : (ℕ → State → List ℕ → Ran) → ℕ → ℕ → List ℕ → Stepped → Ran
continued more n h out e =
    stopped more (stop_of h e.state.tables (with_byte e.put out)) n h e.state (with_byte e.put out)

-- n steps at most of the thread on hart h, where the bytes out were put before
abbrev pub run_on : ℕ → ℕ → State → List ℕ → Ran
run_on zero h s out = record { left = 0; how = On; state = s; output = out }
run_on (suc n) h s out = continued (run_on n) n h out (hart_step h s)

-- THE STEPS OF A RUN, whatever ends it

-- the state and the bytes put after some steps
pub record Stepping : Type 0 where
  pub state : State
  pub output : List ℕ

-- k steps of the thread on hart h, where the bytes out were put before
abbrev pub after_steps : ℕ → ℕ → State → List ℕ → Stepping
after_steps zero h s out = record { state = s; output = out }
after_steps (suc k) h s out =
    after_steps k h (hart_step h s).state (with_byte (hart_step h s).put out)

-- whether a run ends after k steps, and how
abbrev pub stop_after : ℕ → ℕ → State → List ℕ → Option RunEnd
stop_after k h s out = stop_of h (after_steps k h s out).state.tables (after_steps k h s out).output

-- a run of at most n steps of the thread on hart h made m of them
pub record HasMade (n m h : ℕ) (s : State) (out : List ℕ) (ran : Ran) : Type 0 where
  pub count : ran.left + m ≡ n
  -- it is where that many steps lead
  pub state : ran.state ≡ (after_steps m h s out).state
  pub output : ran.output ≡ (after_steps m h s out).output
  -- nothing ended it after fewer
  pub goes_on : (k : ℕ) → 1 ≤ k → k < m → stop_after k h s out ≡ None
  -- the last of them ended it so, or all n were made
  pub ended : ((1 ≤ m) × (stop_after m h s out ≡ Some ran.how))
      ⊎ ((m ≡ n) × (ran.how ≡ On) × (1 ≤ m → stop_after m h s out ≡ None))
