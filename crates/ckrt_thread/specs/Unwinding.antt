-- Unwinding: the clean-up handlers of a thread that ends, newest first, the destructors of its values, and then its end
-- (POSIX.1-2017, pthread_exit, pthread_cleanup_push and pthread_key_create).
use Rattle.std.specs.Prelude.{ℕ, if◌then◌else◌, Option, Some, None}
use Rattle.ckrt_thread.specs.Abi.{UNWIND_GATE}
use Rattle.ckrt_thread.specs.Cancellation.{handlers_of, is_unwinding, unwinding_value, newest, with_cancellation, pushing, popping, entering}
use Rattle.ckrt_thread.specs.Keys.{data_of}
use Rattle.ckrt_thread.specs.Destructors.{next_turn, at_destructor}
use Rattle.ckrt_thread.specs.declared.keys.Turn.{Turn}
use Rattle.ckrt_thread.specs.declared.records.Cancellation.{Cancellation}
use Rattle.ckrt_thread.specs.declared.records.Handler.{Handler}
use Rattle.ckrt_thread.specs.State.{State, thread_of, change_thread}
use Rattle.ckrt_thread.specs.Rows.{finished}

-- the newest handler of a thread
abbrev pub newest_handler : ℕ → State → Option Handler
newest_handler t s = newest (handlers_of (thread_of s t))

-- the thread has one handler more, the newest
abbrev pub pushed : Handler → ℕ → State → State
pushed h t s = record s { threads = change_thread (pushing h) t s.threads }

-- the thread has its newest handler h no more, where it has one
abbrev pub popped : Option Handler → ℕ → State → State
popped None t s = s
popped (Some h) t s = record s { threads = change_thread popping t s.threads }

-- the thread goes to the routine of a handler, which returns to the address back
abbrev pub entered : ℕ → Handler → ℕ → State → State
entered back h t s = record s { threads = change_thread (entering back h) t s.threads }

-- whose destructor a thread runs that unwinds and has no handler left
abbrev pub turn_of : ℕ → State → Option Turn
turn_of t s = if is_unwinding (thread_of s t) then next_turn s.keys (data_of (thread_of s t)) else None

-- the thread goes to this destructor; with none left it ends with the value that it unwinds with, and its values are gone
abbrev pub destroyed_by : Option Turn → ℕ → State → State
destroyed_by None t s = finished t (unwinding_value (thread_of s t)) s
destroyed_by (Some turn) t s =
    record s { threads = change_thread (at_destructor s.keys turn) t s.threads }

abbrev pub next_destructor : ℕ → State → State
next_destructor t s = destroyed_by (turn_of t s) t s

-- The thread goes to its newest handler, which it has no more. With none left it goes to its next destructor. Only a thread
-- that unwinds is brought here.
abbrev pub handled_by : Option Handler → ℕ → State → State
handled_by None t s = next_destructor t s
handled_by (Some h) t s = entered UNWIND_GATE h t (popped (Some h) t s)

abbrev pub next_handler : ℕ → State → State
next_handler t s = handled_by (newest_handler t s) t s

-- this says from now on how far the thread can be cancelled, and whether it is
abbrev pub with_cancellation_of : ℕ → Cancellation → State → State
with_cancellation_of t c s = record s { threads = change_thread (with_cancellation c) t s.threads }
