-- How a stop is told.
use Rattle.std.specs.Prelude.{ℕ, ◌==◌, ◌&&◌, not, nat_le, nat_lt, Bool, true, false, if◌then◌else◌, Option, Some, None, List, [], ◌∷◌, length}
use Rattle.ckrt_rv32i.specs.declared.execution.Cause.{Cause}
use Rattle.ckrt_rv32i.specs.declared.execution.Cause.TheVariants as fault
use Rattle.ckrt_thread.specs.State as threads
use Rattle.ckrt_calls.specs.declared.table.Status.{Status}
use Rattle.ckrt_calls.specs.declared.table.Status.TheVariants as status
use Rattle.ckrt_gdb_forms.specs.declared.reply.Cause.TheVariants as cause
use Rattle.ckrt_gdb_forms.specs.declared.reply.Cause.{Cause as Reason}
use Rattle.ckrt_gdb_forms.specs.declared.request.Choice.TheVariants.{Any}
use Rattle.ckrt_gdb_history.specs.declared.position.Position.{Position}
use Rattle.ckrt_gdb_history.specs.declared.stop.Watch.{Watch}
use Rattle.ckrt_gdb_history.specs.declared.stop.WatchKind.{WatchKind}
use Rattle.ckrt_gdb_history.specs.declared.stop.WatchKind.TheVariants.{Changes, Loads, Accesses}
use Rattle.ckrt_gdb_history.specs.Positions.{History, previous_position, state_at}
use Rattle.ckrt_gdb_history.specs.Stops.{Runner, runner_at}
use Rattle.ckrt_gdb_playback.specs.declared.limits.Bounds.{Bounds}
use Rattle.ckrt_gdb_playback.specs.declared.going.Way.{Way}
use Rattle.ckrt_gdb_playback.specs.declared.going.Way.TheVariants.{On, StepOn, Back, StepBack}
use Rattle.ckrt_gdb_playback.specs.declared.motion.Found.{Found}
use Rattle.ckrt_gdb_playback.specs.declared.motion.Found.TheVariants.{Met, Halted, Stepped, Nothing}
use Rattle.ckrt_gdb_playback.specs.declared.view.Stopped.{Stopped}
use Rattle.ckrt_gdb_playback.specs.declared.view.View.{View}
use Rattle.ckrt_gdb_playback.specs.Look.{is_shown, shown_ids}
use Rattle.ckrt_gdb_playback.specs.Motions.{at}

-- gdb's numbers of SIGILL, SIGTRAP, SIGBUS and SIGSEGV (gdb's `signals.def`)
abbrev pub signal_of : Cause → ℕ
signal_of fault.Illegal = 4
signal_of fault.Breakpoint = 5
signal_of fault.JumpMisaligned = 10
signal_of fault.LoadMisaligned = 10
signal_of fault.StoreMisaligned = 10
signal_of fault.FetchRange = 11
signal_of fault.LoadRange = 11
signal_of fault.StoreRange = 11
signal_of fault.Gate = 11

abbrev pub first_or_one : List ℕ → ℕ
first_or_one [] = 1
first_or_one (t ∷ ts) = t

-- a thread if it is shown, else the first one that is
abbrev pub shown : ℕ → threads.State → ℕ
shown t s = if is_shown t s then t else first_or_one (shown_ids s)

-- the status of a guest that aborted: 128, and gdb's number of SIGABRT
abbrev pub ABORTED : ℕ
ABORTED = 134

-- a thread made the step with which the program ended: it aborted, or there is another reason to stop
abbrev pub exited : ℕ → Reason → ℕ → Stopped
exited n reason t =
    if n == ABORTED then record { signal = 6; cause = cause.Stopped; thread = t }
    else record { signal = 5; cause = reason; thread = t }

-- behind the last event: the fault or the abort with which the program ended, where somebody has just come there; else that nothing is
-- recorded behind
abbrev pub ending_of : Status → (has_moved : Bool) → ℕ → Stopped
ending_of (status.Faulted u pc c) true t =
    record { signal = signal_of c; cause = cause.Stopped; thread = u }
ending_of (status.Exited n) true t = exited n cause.End t
ending_of _ has_moved t = record { signal = 5; cause = cause.End; thread = t }

-- WHOM IT NAMES

-- the threads at the position, and how the program stands
abbrev pub threads_at : History → threads.State
threads_at h = (state_at h.position h.events h.start).state.tables.threads

abbrev pub status_at : History → Status
status_at h = (state_at h.position h.events h.start).state.tables.status

-- whose step is next; this thread where nobody's is
abbrev pub next_in : Option Runner → ℕ → threads.State → ℕ
next_in None t s = shown t s
next_in (Some r) t s = shown r.0 s

abbrev pub next_or : ℕ → History → ℕ
next_or t h = next_in (runner_at h.position h.events h.start) t (threads_at h)

-- who made the step that led here
abbrev pub stepper_or : ℕ → History → ℕ
stepper_or t h = next_or t (at (previous_position h.position h.events h.start) h)

-- who ended the program: the thread of its fault, or who made its last step; this thread where it hasn't ended
abbrev pub ender_by : Status → ℕ → History → ℕ
ender_by status.Running t h = t
ender_by (status.Exited n) t h = stepper_or t h
ender_by (status.Faulted u pc c) t h = u

-- behind the last event that one
abbrev pub ender_or : ℕ → History → ℕ
ender_or t h = shown (ender_by (status_at h) t h) (threads_at h)

-- WHAT IT IS TOLD AS

abbrev pub trap : Reason → ℕ → Stopped
trap reason t = record { signal = 5; cause = reason; thread = t }

-- of a thread that stands, where gdb has said nothing of threads
abbrev pub first_view : (known t : ℕ) → View
first_view known t = record { examined = t; chosen = Any; last = trap cause.Stopped t; known = known }

-- of one that stands where somebody went: its registers are told
abbrev pub standing_in : View → ℕ → View
standing_in v t = record { examined = t; chosen = v.chosen; last = trap cause.Stopped t; known = v.known }

-- at the position that was named (gdb's number of no signal), or at the limit of steps
abbrev pub reached : ℕ → Stopped
reached t = record { signal = 0; cause = cause.Stopped; thread = t }

abbrev pub interrupted : ℕ → Stopped
interrupted t = record { signal = 2; cause = cause.Stopped; thread = t }

-- a motion ended at the limit of steps
abbrev pub is_interrupted : Stopped → Bool
is_interrupted s = s.signal == 2

abbrev pub is_same : (p q : Position) → Bool
is_same p q = p.events == q.events && p.steps == q.steps

abbrev pub is_before : (p q : Position) → Bool
is_before p q =
    if p.events == q.events then nat_lt p.steps q.steps else nat_lt p.events q.events

abbrev pub is_named : Option Position → Position → Bool
is_named None p = false
is_named (Some u) p = is_same u p

abbrev pub at_end : Option Position → ℕ → History → Stopped
at_end until t h = if is_named until h.position then reached t else interrupted t

-- behind a thread's step: the fault or the abort with which the program ended by it, if one did
abbrev pub stepped : (is_end : Bool) → Status → ℕ → Stopped
stepped true (status.Faulted u pc c) t = ending_of (status.Faulted u pc c) true t
stepped true (status.Exited n) t = exited n cause.Stopped t
stepped _ _ t = trap cause.Stopped t

abbrev pub is_begin : History → Bool
is_begin h = h.position.events == 0 && h.position.steps == 0

abbrev pub is_end : History → Bool
is_end h = nat_le (length h.events) h.position.events

abbrev pub has_moved : (from to : Position) → Bool
has_moved from to = not (is_same from to)

-- a watch that a step met, as gdb is told it
abbrev pub cause_for : WatchKind → (first : ℕ) → Reason
cause_for Changes a = cause.Written a
cause_for Loads a = cause.Read a
cause_for Accesses a = cause.Accessed a

abbrev pub cause_of : Watch → Reason
cause_of w = cause_for w.kind w.first

-- a motion that was to go on; the thread is the one that was to step, or that of the last stop
abbrev pub told_on : Option Position → Found → (has_moved : Bool) → ℕ → History → Stopped
told_on until (Met watch) m t h = trap (cause_of watch) (next_or t h)
told_on until Halted m t h = trap cause.Stopped (next_or t h)
told_on until Stepped m t h = stepped (is_end h) (status_at h) (shown t (threads_at h))
told_on until Nothing m t h =
    if is_end h then ending_of (status_at h) m (ender_or t h) else at_end until (next_or t h) h

-- a motion back
abbrev pub told_back : Option Position → Found → ℕ → History → Stopped
told_back until (Met watch) t h = trap (cause_of watch) (stepper_or t h)
told_back until Nothing t h =
    if is_begin h then trap cause.Begin (next_or t h) else at_end until (next_or t h) h
told_back until _ t h = trap cause.Stopped (next_or t h)

-- a motion from h to z; `last` is the thread of the stop before
abbrev pub told : Bounds → Way → Found → (last : ℕ) → (h z : History) → Stopped
told b On found last h z = told_on b.until found (has_moved h.position z.position) last z
told b (StepOn t) found last h z = told_on b.until found (has_moved h.position z.position) t z
told b Back found last h z = told_back b.until found last z
told b (StepBack t) found last h z = told_back b.until found t z
