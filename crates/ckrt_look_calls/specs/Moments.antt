-- What is told of a moment, beneath the line of what was found (this project's own format): who did it, and who called.
use Rattle.std.specs.Prelude.{ℕ, zero, suc, false, List, [], ◌++◌, codes, decimal, Option, Some, None}
use Rattle.std.specs.Option.{option_map_or}
use Rattle.ckrt_registers.specs.Registers.{Registers}
use Rattle.ckrt_thread.specs.State as threads
use Rattle.ckrt_machine.specs.Steps.{State}
use Rattle.ckrt_inspect.specs.Texts.{hex_text}
use Rattle.ckrt_look_calls.specs.declared.lines.Place.{Place}
use Rattle.ckrt_look_recording.specs.Frames.{frame_of, next_frame}
use Rattle.ckrt_look_recording.specs.declared.frame.Frame.{Frame}
use Rattle.ckrt_look_recording.specs.declared.rule.Rule.{Rule}
use Rattle.ckrt_look_calls.specs.declared.moment.Moment.{Moment}
use Rattle.ckrt_look_calls.specs.Replays.{Replay, state_at}

-- a place behind a word
abbrev pub position_text : (word : List ℕ) → Place → List ℕ
position_text word p = word ++ decimal p.event ++ (codes "+" ++ decimal p.step)

-- `    K+S thread T`
abbrev pub moment_text : Moment → List ℕ
moment_text m = position_text (codes "    ") m.place ++ (codes " thread " ++ decimal m.thread)

-- a line that tells an address
abbrev pub moment_line : Moment → (word : List ℕ) → (address : ℕ) → (tail : List ℕ) → List ℕ
moment_line m word address tail = moment_text m ++ (word ++ hex_text address) ++ tail

-- `WORDK+S by thread T`
abbrev pub by_text : (word : List ℕ) → Moment → List ℕ
by_text word m = position_text word m.place ++ (codes " by thread " ++ decimal m.thread)

-- `    in a block of N bytes from ADDRESS on, taken at K+S by thread T`
abbrev pub block_text : (address bytes : ℕ) → List ℕ
block_text address bytes =
    codes "    in a block of " ++ decimal bytes ++ (codes " bytes from " ++ hex_text address)

abbrev pub taken_line : (address bytes : ℕ) → Moment → List ℕ
taken_line address bytes m =
    block_text address bytes ++ by_text (codes " on, taken at ") m ++ codes "\n"

-- CALLERS, from the innermost on, sixteen at most

-- `.. called from PC`
abbrev pub caller_line : Moment → Frame → List ℕ
caller_line m f = moment_line m (codes " called from ") f.place (codes "\n")

abbrev pub caller_lines : (n : ℕ) → Moment → List Rule → List ℕ → Frame → List ℕ
caller_lines zero m rules bytes f = []
caller_lines (suc n) m rules bytes f =
    option_map_or (λ c. caller_line m c ++ caller_lines n m rules bytes c)
    (next_frame rules bytes f) []

-- of a thread that is about to make a step
abbrev pub callers_by : Moment → List Rule → List ℕ → Option Registers → List ℕ
callers_by m rules bytes None = []
callers_by m rules bytes (Some r) = caller_lines 16 m rules bytes (frame_of r false)

abbrev pub callers_text : Moment → List Rule → State → List ℕ
callers_text m rules s =
    callers_by m rules s.bytes (threads.regs_of (threads.thread_of s.tables.threads m.thread))

-- at a moment of a recording
abbrev pub made_text : Moment → Replay → List ℕ
made_text m r = callers_text m r.rules (state_at m.place r)
