-- Cancellation of a thread, and its clean-up handlers (POSIX.1-2017, 2.9.5 Thread Cancellation, and pthread_cleanup_push).
use Rattle.std.specs.Prelude.{ℕ, ◌-◌, ◌%◌, ◌==◌, nat_le, Bool, false, true, not, ◌&&◌, if◌then◌else◌, Option, Some, None, is_some, unwrap_or, List, [], ◌∷◌, ◌++◌, length, take, slice_get}
use Rattle.std.specs.List.{list_all}
use Rattle.ckrt_registers.specs.Registers.{Registers}
use Rattle.ckrt_registers.specs.Registers.{put}
use Rattle.ckrt_thread.specs.Abi.{RA, A0}
use Rattle.ckrt_thread.specs.declared.records.Cancellation.{Cancellation}
use Rattle.ckrt_thread.specs.declared.records.Handler.{Handler}
use Rattle.ckrt_thread.specs.declared.records.Live.{Live}
use Rattle.ckrt_thread.specs.declared.records.Thread.{Thread}
use Rattle.ckrt_thread.specs.declared.records.Thread.TheVariants as thread

-- what a cancelled thread ends with (PTHREAD_CANCELED; the number is this project's choice)
abbrev pub CANCELED : ℕ
CANCELED = 0xFFFF_FFFF

-- how many clean-up handlers a thread may have (this project's choice)
abbrev pub MAX_HANDLERS : ℕ
MAX_HANDLERS = 16

-- STATE AND TYPE

-- a new thread can be cancelled at a cancellation point, and nobody asked for it
abbrev pub at_the_start : Cancellation
at_the_start =
    record { is_enabled = true; is_asynchronous = false; is_requested = false; unwinding = None }

-- the thread unwinds from now on, to end with the value v: nothing cancels it any more
abbrev pub unwinding_with : ℕ → Cancellation → Cancellation
unwinding_with v c = record c { is_enabled = false; is_asynchronous = false; unwinding = Some v }

-- the thread acts on the request that was made: it unwinds, to end as a cancelled thread
abbrev pub acted_on : Cancellation → Cancellation
acted_on c = unwinding_with CANCELED (record c { is_requested = false })

-- a request that the thread acts on at the next cancellation point
abbrev pub is_pending : Cancellation → Bool
is_pending c = c.is_enabled && c.is_requested

-- a request that the thread acts on before its next instruction
abbrev pub is_immediate : Cancellation → Bool
is_immediate c = is_pending c && c.is_asynchronous

-- a thread that unwinds is disabled and deferred
abbrev pub is_consistent : Cancellation → Bool
is_consistent c = if is_some c.unwinding then not c.is_enabled && not c.is_asynchronous else true

-- CLEAN-UP HANDLERS, oldest first

abbrev pub is_aligned_handler : Handler → Bool
is_aligned_handler h = h.routine % 4 == 0

abbrev pub are_proper_handlers : List Handler → Bool
are_proper_handlers hs = list_all is_aligned_handler hs && nat_le (length hs) MAX_HANDLERS

abbrev pub newest : List Handler → Option Handler
newest hs = slice_get hs (length hs - 1)

abbrev pub without_newest : List Handler → List Handler
without_newest hs = take (length hs - 1) hs

-- THREADS

abbrev pub cancellation_of : Option Thread → Cancellation
cancellation_of None = at_the_start
cancellation_of (Some (thread.Ended v)) = at_the_start
cancellation_of (Some (thread.Live l)) = l.cancellation

abbrev pub handlers_of : Option Thread → List Handler
handlers_of None = []
handlers_of (Some (thread.Ended v)) = []
handlers_of (Some (thread.Live l)) = l.handlers.items

abbrev pub is_unwinding : Option Thread → Bool
is_unwinding o = is_some (cancellation_of o).unwinding

-- the value that a thread which unwinds is to end with
abbrev pub unwinding_value : Option Thread → ℕ
unwinding_value o = unwrap_or (cancellation_of o).unwinding 0

abbrev pub with_cancellation : Cancellation → Live → Live
with_cancellation c l = record l { cancellation = c }

abbrev pub with_handlers : List Handler → Live → Live
with_handlers hs l = record l { handlers = record { items = hs } }

abbrev pub pushing : Handler → Live → Live
pushing h l = with_handlers (l.handlers.items ++ h ∷ []) l

abbrev pub popping : Live → Live
popping l = with_handlers (without_newest l.handlers.items) l

-- the registers of a thread that goes to a handler's routine, which returns to the address back
abbrev pub at_routine : ℕ → Handler → Registers → Registers
at_routine back h r =
    record { pc = h.routine; x = put (record r { x = put r RA back }) A0 h.argument }

abbrev pub entering : ℕ → Handler → Live → Live
entering back h l = record l { regs = at_routine back h l.regs }
