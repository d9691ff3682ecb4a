-- Who makes a step: the thread on a hart, with its registers.
use Rattle.std.specs.Prelude.{ℕ, Option, Some, None}
use Rattle.ckrt_registers.specs.Registers.{Registers}
use Rattle.ckrt_thread.specs.State as threads
use Rattle.ckrt_machine.specs.Steps.{State}
use Rattle.ckrt_look_calls.specs.declared.lines.Place.{Place}
use Rattle.ckrt_look_calls.specs.declared.stepping.Stepping.{Stepping}

abbrev pub stepping_by : (t : ℕ) → Place → Option Registers → Option Stepping
stepping_by t p None = None
stepping_by t p (Some r) = Some (record { thread = t; place = p; regs = r })

-- of the thread that is on a hart, if one is
abbrev pub stepping_of : Place → Option ℕ → State → Option Stepping
stepping_of p None s = None
stepping_of p (Some t) s =
    stepping_by t p (threads.regs_of (threads.thread_of s.tables.threads t))
