-- Steps in a row of a thread, from none of which it leaves its function.
use Rattle.std.specs.Prelude.{ℕ, zero, suc, ◌==◌, ◌||◌, not, Bool, true, false, if◌then◌else◌, List, [], ◌∷◌}
use Rattle.ckrt_memory.specs.Reasons.{Meets}
use Rattle.ckrt_rv32i.specs.Memory.{is_valid, loaded}
use Rattle.ckrt_rv32i.specs.declared.memory_bus.Size.TheVariants as size
use Rattle.ckrt_look_profile.specs.declared.turn.Turn.{Turn}
use Rattle.ckrt_look_profile.specs.declared.turn.Turn.TheVariants as turn
use Rattle.ckrt_look_profile.specs.Turns.{turn_of}
use Rattle.ckrt_machine.specs.Runs.{with_byte}
use Rattle.ckrt_machine.specs.Steps.{State, hart_of, hart_step}
use Rattle.ckrt_look_recording.specs.Quiet.{is_at_gate}
use Rattle.ckrt_look_profile.specs.Steps.{step_by}

abbrev pub is_onward : Turn → Bool
is_onward turn.Onward = true
is_onward turn.Call = false
is_onward turn.Return = false
is_onward turn.Swap = false
is_onward (turn.Runtime p) = false

-- a thread leaves its function by a word: by ECALL, a call or a return
abbrev pub leaves : ℕ → Bool
leaves w = w == 0x73 || not (is_onward (turn_of w))

abbrev pub leaves_at : List ℕ → (pc : ℕ) → Bool
leaves_at m pc = if is_valid m pc size.Word then leaves (loaded m pc size.Word) else false

-- its next step may lead elsewhere
abbrev pub leaves_next : Meets
leaves_next r m = if is_at_gate r.pc then true else leaves_at m r.pc

-- the addresses of the next m steps of the thread on hart h, where the bytes out were put before
abbrev pub addresses : (m h : ℕ) → State → List ℕ → List ℕ
addresses zero h s out = []
addresses (suc m) h s out =
    (step_by (hart_of s.tables h) true s).pc
    ∷ addresses m h (hart_step h s).state (with_byte (hart_step h s).put out)
