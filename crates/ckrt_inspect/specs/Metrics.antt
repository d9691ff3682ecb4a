-- How a drive and its program stand, in the text format of Prometheus (version 0.0.4, "text-based format" of its exposition formats), as its
-- node exporter collects it from files. Lines end with a line feed; the names of metrics and the texts are this project's own.
use Rattle.std.specs.Prelude.{ℕ, Bool, List, [], ◌++◌, if◌then◌else◌, codes, decimal, Option, Some, None}
use Rattle.std.specs.List.{find, flat_map}
use Rattle.ckrt_thread.specs.declared.records.Thread.{Thread}
use Rattle.ckrt_thread.specs.declared.records.Thread.TheVariants as thread
use Rattle.ckrt_thread.specs.declared.records.Wait.{Wait}
use Rattle.ckrt_thread.specs.Contents.{ThreadRow, thread_rows}
use Rattle.ckrt_thread.specs.State as threads
use Rattle.ckrt_thread.specs.Waits.{is_of}
use Rattle.ckrt_calls.specs.declared.table.Status.{Status}
use Rattle.ckrt_calls.specs.declared.table.Status.TheVariants as status
use Rattle.ckrt_calls.specs.declared.table.Tables.{Tables}
use Rattle.ckrt_inspect.specs.declared.metrics.Metric.{Metric}
use Rattle.ckrt_inspect.specs.declared.metrics.Metric.TheVariants.{Events, Acknowledged, Steps, Ticks, Output, Input, Generation, Room, Drive, Threads}
use Rattle.ckrt_inspect.specs.declared.metrics.Readings.{Readings}
use Rattle.ckrt_inspect.specs.declared.metrics.Standing.{Standing}
use Rattle.ckrt_inspect.specs.declared.metrics.Standing.TheVariants as stands
use Rattle.ckrt_inspect.specs.Texts.{reason_text, status_text}

-- WHAT IS TOLD

abbrev pub name_of : Metric → List ℕ
name_of Events = codes "ckrt_events_total"
name_of Acknowledged = codes "ckrt_acknowledged_events_total"
name_of Steps = codes "ckrt_steps_total"
name_of Ticks = codes "ckrt_ticks_total"
name_of Output = codes "ckrt_output_bytes_total"
name_of Input = codes "ckrt_input_bytes_total"
name_of Generation = codes "ckrt_generation"
name_of Room = codes "ckrt_journal_room_bytes"
name_of Drive = codes "ckrt_drive"
name_of Threads = codes "ckrt_thread"

abbrev pub help_of : Metric → List ℕ
help_of Events = codes "Events accepted since the disk was formatted."
help_of Acknowledged = codes "Events that no power cut takes back."
help_of Steps = codes "Guest steps since this drive began."
help_of Ticks = codes "The guest's clock, in ticks."
help_of Output = codes "Bytes of output of acknowledged events."
help_of Input = codes "Bytes of its input that the program was given."
help_of Generation = codes "The generation of the disk's area in use."
help_of Room = codes "Bytes that the journal has left."
help_of Drive = codes "How the drive stands: running, or the end that it came to."
help_of Threads = codes "What each thread does now; addresses are hexadecimal."

-- a counter only grows, and a gauge goes up and down
abbrev pub kind_of : Metric → List ℕ
kind_of Events = codes "counter"
kind_of Acknowledged = codes "counter"
kind_of Steps = codes "counter"
kind_of Ticks = codes "counter"
kind_of Output = codes "counter"
kind_of Input = codes "counter"
kind_of Generation = codes "counter"
kind_of Room = codes "gauge"
kind_of Drive = codes "gauge"
kind_of Threads = codes "gauge"

-- ONE METRIC: `# HELP NAME TEXT`, `# TYPE NAME KIND`, and after them `NAME VALUE`

abbrev pub help_line : Metric → List ℕ
help_line m = codes "# HELP " ++ name_of m ++ codes " " ++ help_of m ++ codes "\n"

abbrev pub type_line : Metric → List ℕ
type_line m = codes "# TYPE " ++ name_of m ++ codes " " ++ kind_of m ++ codes "\n"

abbrev pub head_lines : Metric → List ℕ
head_lines m = help_line m ++ type_line m

abbrev pub metric_lines : Metric → ℕ → List ℕ
metric_lines m value = head_lines m ++ name_of m ++ codes " " ++ decimal value ++ codes "\n"

-- nothing where there is no value
abbrev pub optional_lines : Metric → Option ℕ → List ℕ
optional_lines m None = []
optional_lines m (Some value) = metric_lines m value

-- THE DRIVE: `ckrt_drive{stands="TEXT"} 1`

-- how a drive stands whose program has this status: the end that it came to, or that it runs
abbrev pub stands_text : Standing → Status → List ℕ
stands_text stands.Running status = codes "running"
stands_text stands.Ended status = codes "ended: " ++ status_text status
stands_text stands.WaitsForInput status = codes "waits for input"
stands_text stands.Deadlock status = codes "deadlock"
stands_text stands.Enough status = codes "enough"

abbrev pub drive_line : Standing → Status → List ℕ
drive_line standing status =
    name_of Drive ++ codes "{stands=\"" ++ stands_text standing status ++ codes "\"} 1\n"

abbrev pub drive_lines : Standing → Status → List ℕ
drive_lines standing status = head_lines Drive ++ drive_line standing status

-- THREADS: `ckrt_thread{thread="T",does="TEXT"} 1`

-- what a thread that hasn't ended does: it waits, or is ready, or runs on a hart
abbrev pub does_text : (is_ready : Bool) → Option Wait → List ℕ
does_text is_ready (Some w) = codes "waits for " ++ reason_text w.reason
does_text is_ready None = if is_ready then codes "ready" else codes "running"

abbrev pub doing_text : (is_ready : Bool) → Option Wait → Thread → List ℕ
doing_text is_ready wait (thread.Ended value) = codes "ended"
doing_text is_ready wait (thread.Live l) = does_text is_ready wait

-- a program that has ended has ended all its threads (POSIX.1-2017, exit: it terminates the process, and with it each thread)
abbrev pub doing_of : Status → threads.State → ThreadRow → List ℕ
doing_of status.Running s r =
    doing_text (threads.is_ready s r.id) (find (is_of r.id) s.waits) r.thread
doing_of (status.Exited code) s r = codes "ended"
doing_of (status.Faulted t pc c) s r = codes "ended"

abbrev pub thread_label : (id : ℕ) → List ℕ
thread_label id =
    name_of Threads ++ codes "{thread=\"" ++ decimal id ++ codes "\",does=\""

abbrev pub thread_line : Status → threads.State → ThreadRow → List ℕ
thread_line status s r = thread_label r.id ++ doing_of status s r ++ codes "\"} 1\n"

-- ALL

abbrev pub event_lines : Readings → List ℕ
event_lines r =
    metric_lines Events r.events ++ metric_lines Acknowledged r.acknowledged
    ++ metric_lines Steps r.steps

abbrev pub disk_lines : Readings → List ℕ
disk_lines r =
    metric_lines Output r.output ++ optional_lines Input r.input
    ++ metric_lines Generation r.generation ++ metric_lines Room r.room

abbrev pub threads_lines : Tables → List ℕ
threads_lines t =
    head_lines Threads ++ flat_map (thread_line t.status t.threads) (thread_rows t.threads)

abbrev pub program_lines : Standing → Tables → List ℕ
program_lines standing t =
    metric_lines Ticks t.clock ++ drive_lines standing t.status ++ threads_lines t

-- how a drive stands whose program has these tables
abbrev pub all_metrics : Readings → Tables → List ℕ
all_metrics r t = event_lines r ++ disk_lines r ++ program_lines r.standing t
