-- What the stub answers while nobody moves.
use Rattle.std.specs.Prelude.{ℕ, if◌then◌else◌, List, [], codes, Option, Some, None}
use Rattle.ckrt_thread.specs.State as threads
use Rattle.ckrt_calls.specs.declared.table.Tables.{Tables}
use Rattle.ckrt_machine.specs.Steps.{State}
use Rattle.ckrt_gdb_forms.specs.Numbers.{hex_text}
use Rattle.ckrt_gdb_forms.specs.Replies.{features_text, part_text, stop_text}
use Rattle.ckrt_gdb_forms.specs.declared.request.Choice.{Choice}
use Rattle.ckrt_gdb_forms.specs.declared.request.Choice.TheVariants.{All, Any, One}
use Rattle.ckrt_gdb_forms.specs.declared.request.Motion.{Motion}
use Rattle.ckrt_gdb_forms.specs.declared.request.Motion.TheVariants.{Continue, Step, StepOut}
use Rattle.ckrt_gdb_forms.specs.declared.request.Request.{Request}
use Rattle.ckrt_gdb_forms.specs.declared.request.Request.TheVariants.{Features, WithoutAcknowledgements, Extended, LastStop, Registers, Memory, IsAlive, FirstThreads, MoreThreads, ThreadText, Motions, Move, StepBack, ContinueBack, Restart, IsAttached, Symbols, Description, Change, Malformed, Unknown}
use Rattle.ckrt_gdb_playback.specs.declared.description.TheConstants.{DESCRIPTION}
use Rattle.ckrt_gdb_playback.specs.declared.going.Way.{Way}
use Rattle.ckrt_gdb_playback.specs.declared.going.Way.TheVariants as way
use Rattle.ckrt_gdb_playback.specs.declared.view.View.{View}
use Rattle.ckrt_gdb_playback.specs.Look.{absent_text, done_text, failed_text, ids_text, is_known, is_listed, is_shown, memory_text, registers_text}
use Rattle.ckrt_gdb_playback.specs.Standing.{standing_text}

-- the thread that is meant: of any, that of the last stop
abbrev pub meant : Choice → View → ℕ
meant (One t) v = t
meant Any v = v.last.thread
meant All v = v.last.thread

-- what is told of a thread, where it is listed
abbrev pub thread_text : (known t : ℕ) → Tables → List ℕ
thread_text known t s =
    if is_shown t s.threads then hex_text (standing_text t s)
    else if is_known known t then hex_text (absent_text (threads.thread_of s.threads t))
    else failed_text 1

abbrev pub last_text : View → List ℕ
last_text v = stop_text v.last.signal v.last.cause v.last.thread

-- the description of the target, from an offset on
unfoldable pub description_text : (from count : ℕ) → List ℕ
description_text from count = part_text DESCRIPTION.now from count

-- what is answered always so. Nothing is written into registers or memory: the past doesn't change.
abbrev pub constant_of : Request → Option (List ℕ)
constant_of Features = Some features_text
constant_of WithoutAcknowledgements = Some (codes "OK")
constant_of MoreThreads = Some (codes "l")
constant_of Motions = Some (codes "vCont;c;C;s;S;r")
constant_of IsAttached = Some (codes "1")
constant_of Symbols = Some (codes "OK")
constant_of (Description from count) = Some (description_text from count)
constant_of Change = Some (failed_text 0x1e)
constant_of Malformed = Some (failed_text 1)
constant_of Extended = Some []
constant_of (Restart text) = Some []
constant_of Unknown = Some []
constant_of _ = None

-- what is told of threads
abbrev pub threads_look_of : Request → View → Tables → Option (List ℕ)
threads_look_of LastStop v s = Some (last_text v)
threads_look_of Registers v s = Some (registers_text v.examined s.threads)
threads_look_of (IsAlive choice) v s = Some (done_text (is_listed v.known (meant choice v) s.threads))
threads_look_of FirstThreads v s = Some (ids_text v.known s.threads)
threads_look_of (ThreadText choice) v s = Some (thread_text v.known (meant choice v) s)
threads_look_of _ v s = None

abbrev pub memory_look_of : Request → List ℕ → Option (List ℕ)
memory_look_of (Memory address count) memory = Some (memory_text address count memory)
memory_look_of _ memory = None

-- the first of two that is there
abbrev pub or_else : Option (List ℕ) → Option (List ℕ) → Option (List ℕ)
or_else (Some text) other = Some text
or_else None other = other

-- the payload of a request that neither moves nor sets anything, of a state
abbrev pub look_of : Request → View → State → Option (List ℕ)
look_of request v s =
    or_else (constant_of request) (or_else (threads_look_of request v s.tables) (memory_look_of request s.bytes))

-- THE WAY that gdb wants to go, if it does

-- the thread that is to step: the one that is meant, where it is shown, else that of the last stop
abbrev pub stepping : Choice → View → threads.State → ℕ
stepping (One t) v s = if is_shown t s then t else v.last.thread
stepping Any v s = v.last.thread
stepping All v s = v.last.thread

-- of a range of steps it is the first step, as gdb allows
abbrev pub way_by : Motion → View → threads.State → Way
way_by Continue v s = way.On
way_by (Step choice) v s = way.StepOn (stepping choice v s)
way_by (StepOut from to choice) v s = way.StepOn (stepping choice v s)

abbrev pub way_of : Request → View → threads.State → Option Way
way_of (Move motion) v s = Some (way_by motion v s)
way_of ContinueBack v s = Some way.Back
way_of StepBack v s = Some (way.StepBack (stepping v.chosen v s))
way_of _ v s = None
