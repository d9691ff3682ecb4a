-- The lines of one step of a hart: a call with what came of it, and each wait that the step ended (this project's own format). A line is a function
-- of the state before the step and of the one behind it.
use Rattle.std.specs.Prelude.{◌≡◌, ◌≤◌, ℕ, ◌+◌, ◌%◌, ◌^◌, ◌==◌, ◌&&◌, not, Bool, true, false, if◌then◌else◌, List, [], ◌++◌, map, codes, decimal, Option, Some, None}
use Rattle.std.specs.List.{find, flat_map}
use Rattle.ckrt_registers.specs.Registers.{Registers, get}
use Rattle.ckrt_thread.specs.Cancellation.{is_immediate}
use Rattle.ckrt_thread.specs.State as threads
use Rattle.ckrt_thread.specs.Waits.{is_of}
use Rattle.ckrt_thread.specs.declared.records.Live.{Live}
use Rattle.ckrt_thread.specs.declared.records.Reason.{Reason}
use Rattle.ckrt_thread.specs.declared.records.Reason.TheVariants as reason
use Rattle.ckrt_thread.specs.declared.records.Thread.{Thread}
use Rattle.ckrt_thread.specs.declared.records.Thread.TheVariants as thread
use Rattle.ckrt_thread.specs.declared.records.Wait.{Wait}
use Rattle.ckrt_calls.specs.declared.table.Status.{Status}
use Rattle.ckrt_calls.specs.declared.table.Status.TheVariants as status
use Rattle.ckrt_calls.specs.declared.table.Tables.{Tables}
use Rattle.ckrt_calls.specs.Table.{call_of}
use Rattle.ckrt_events.specs.declared.event.Event.TheVariants.{Run}
use Rattle.ckrt_machine.specs.Events.{Machine, refusal_of}
use Rattle.ckrt_machine.specs.Runs.{is_running, stop_of}
use Rattle.ckrt_machine.specs.Steps.{State, hart_of, hart_step}
use Rattle.ckrt_look_recording.specs.Quiet.{is_ecall_at, is_quiet}
use Rattle.ckrt_inspect.specs.Texts.{reason_text, status_text}
use Rattle.ckrt_inspect.specs.Listing.{until_text}
use Rattle.ckrt_look_calls.specs.declared.lines.Caller.{Caller}
use Rattle.ckrt_look_calls.specs.declared.lines.Place.{Place}
use Rattle.ckrt_look_calls.specs.declared.lines.Waiting.{Waiting}
use Rattle.ckrt_look_calls.specs.declared.names.Answers.{Answers}
use Rattle.ckrt_look_calls.specs.declared.names.Answers.TheVariants as answers
use Rattle.ckrt_look_calls.specs.Calls.{answers_of, answers_text, call_text}

-- THE BEGIN OF A LINE: `K+S `, K events and S steps of the next one are done; and `K+S thread T ` of a thread

abbrev pub place_text : Place → List ℕ
place_text p = decimal p.event ++ codes "+" ++ decimal p.step ++ codes " "

abbrev pub thread_text : Place → ℕ → List ℕ
thread_text p t = place_text p ++ codes "thread " ++ decimal t ++ codes " "

-- WHAT CAME OF A CALL OR A WAIT: ` = 0`, ` = 0, VALUE`, ` waits REASON`, or ` = ?` where the thread isn't at the place behind the call: it went to a
-- routine, or ended, or the program did

abbrev pub unknown_text : List ℕ
unknown_text = codes " = ?"

abbrev pub answer_text : Answers → Registers → List ℕ
answer_text a r = codes " = " ++ answers_text a r

abbrev pub answered_at : (pc : ℕ) → Answers → Option Registers → List ℕ
answered_at pc a None = unknown_text
answered_at pc a (Some r) = if r.pc == pc then answer_text a r else unknown_text

abbrev pub waits_text : Wait → List ℕ
waits_text w = codes " waits " ++ reason_text w.reason ++ until_text w.deadline

abbrev pub came_of : (pc : ℕ) → Answers → Option Wait → Option Registers → List ℕ
came_of pc a (Some w) o = waits_text w
came_of pc a None o = answered_at pc a o

-- of a thread whose pc is behind its call
abbrev pub came_text : (t pc : ℕ) → Answers → Tables → List ℕ
came_text t pc a s =
    if is_running s.status then came_of pc a (find (is_of t) s.threads.waits) (threads.regs_of (threads.thread_of s.threads t))
    else unknown_text

-- CALLS: `K+S thread T NAME(ARGUMENTS) = ANSWER`

-- the next step of the thread is a call: it acts on no request, and is at an ECALL
abbrev pub is_calling : Live → List ℕ → Bool
is_calling l bytes = not (is_immediate l.cancellation) && is_ecall_at bytes l.regs.pc

-- the registers of a thread whose next step is a call
abbrev pub calling_of : Option Thread → List ℕ → Option Registers
calling_of None bytes = None
calling_of (Some (thread.Ended v)) bytes = None
calling_of (Some (thread.Live l)) bytes = if is_calling l bytes then Some l.regs else None

abbrev pub caller : ℕ → Option Registers → Option Caller
caller t None = None
caller t (Some r) = Some (record { thread = t; regs = r })

-- who makes a call by the next step of a hart that it is on
abbrev pub caller_of : Option ℕ → State → Option Caller
caller_of None s = None
caller_of (Some t) s = caller t (calling_of (threads.thread_of s.tables.threads t) s.bytes)

abbrev pub call_line : Place → Option Caller → Tables → List ℕ
call_line p None after = []
call_line p (Some c) after =
    thread_text p c.thread ++ call_text c.regs
    ++ came_text c.thread ((c.regs.pc + 4) % 2 ^ 32) (answers_of (call_of (get c.regs 17))) after
    ++ codes "\n"

-- WAITS THAT ARE OVER: `K+S thread T REASON is over = ANSWER`; who waited at a condition may wait for its mutex then

abbrev pub pc_of : Option Registers → ℕ
pc_of None = 0
pc_of (Some r) = r.pc

-- a wait, and the pc of who waits
abbrev pub waiting_in : threads.State → Wait → Waiting
waiting_in s w =
    record { wait = w; pc = pc_of (threads.regs_of (threads.thread_of s w.thread)) }

abbrev pub waiting_of : threads.State → List Waiting
waiting_of s = map (waiting_in s) s.waits

abbrev pub is_retake : Reason → Bool
is_retake (reason.Retake m r) = true
is_retake _ = false

-- a thread still waits as it did, where this is its wait now
abbrev pub still_waits : Reason → Option Wait → Bool
still_waits r None = false
still_waits r (Some w) = if is_retake w.reason then is_retake r else true

-- the answers at the end of a wait: of the calls that wait, `join` alone has a second one
abbrev pub answers_after : Reason → Answers
answers_after (reason.Join t) = answers.AndWord
answers_after _ = answers.One

abbrev pub ended_line : Place → Tables → Waiting → List ℕ
ended_line p after w =
    thread_text p w.wait.thread ++ reason_text w.wait.reason ++ codes " is over"
    ++ came_text w.wait.thread w.pc (answers_after w.wait.reason) after
    ++ codes "\n"

abbrev pub over_line : Place → Tables → Waiting → List ℕ
over_line p after w =
    if still_waits w.wait.reason (find (is_of w.wait.thread) after.threads.waits) then []
    else ended_line p after w

abbrev pub over_lines : Place → List Waiting → Tables → List ℕ
over_lines p before after = flat_map (over_line p after) before

-- A STEP

abbrev pub lines_between : Place → Option Caller → List Waiting → Tables → List ℕ
lines_between p who before after = call_line p who after ++ over_lines p before after

-- a call, and the waits that a step ended
abbrev pub lines_of_step : Place → ℕ → State → List ℕ
lines_of_step p h s =
    if is_quiet (hart_of s.tables h) s then []
    else lines_between p (caller_of (hart_of s.tables h) s) (waiting_of s.tables.threads) (hart_step h s).state.tables

-- A FAULT THAT ENDS THE PROGRAM: `K+S fault T PC CAUSE`

abbrev pub fault_line : Place → Status → List ℕ
fault_line p status.Running = []
fault_line p (status.Exited v) = []
fault_line p (status.Faulted t pc c) =
    place_text p ++ status_text (status.Faulted t pc c) ++ codes "\n"

abbrev pub step_lines : Place → ℕ → State → List ℕ
step_lines p h s = lines_of_step p h s ++ fault_line p (hart_step h s).state.tables.status

-- WHEN A STEP MAY BE MADE: the first one of a run that is accepted, or a further one of a run that goes on

abbrev pub MayStep : (is_first : Bool) → ℕ → Machine → Type 0
MayStep true h m = (h ≤ 7) × (refusal_of 0 (Run h 1) m.state ≡ None)
MayStep false h m = stop_of h m.state.tables m.output ≡ None

-- the bytes that its run put before
abbrev pub put_before : (is_first : Bool) → Machine → List ℕ
put_before true m = []
put_before false m = m.output
