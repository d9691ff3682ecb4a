-- By a schedule (this project's choice): behind its last event a history goes on with those that a schedule has next.
use Rattle.std.specs.Prelude.{◌≡◌, ◌≤◌, ℕ, zero, suc, ◌+◌, ◌-◌, ◌^◌, min, nat_lt, if◌then◌else◌, List, [], ◌∷◌, ◌++◌, length, Option, Some, None, Result, Ok, Err}
use Rattle.ckrt_calls.specs.declared.table.Status.{Status}
use Rattle.ckrt_events.specs.declared.event.Event.{Event}
use Rattle.ckrt_machine.specs.Steps.{State}
use Rattle.ckrt_machine.specs.Events.{refusal_of, step}
use Rattle.ckrt_machine.specs.Runs.{is_running}
use Rattle.ckrt_schedule.specs.declared.next.Next.{Next}
use Rattle.ckrt_schedule.specs.declared.next.Next.TheVariants.{Submit, End}
use Rattle.ckrt_schedule.specs.declared.next.ScheduleEnd.{ScheduleEnd}
use Rattle.ckrt_schedule.specs.declared.next.ScheduleEnd.TheVariants.{Ended, Enough}
use Rattle.ckrt_schedule.specs.declared.schedule.Schedule.{Schedule}
use Rattle.ckrt_schedule.specs.Schedules.{next_event}
use Rattle.ckrt_gdb_history.specs.declared.forking.AppendFault.{AppendFault}
use Rattle.ckrt_gdb_history.specs.declared.forking.AppendFault.TheVariants.{NotAtEnd}
use Rattle.ckrt_gdb_history.specs.Positions.{History, end_of}
use Rattle.ckrt_gdb_history.specs.Forks.{append_fault, ending_with, last_state, with_event}

-- a history that has gone on, and why it has no further event: the schedule has none, or it isn't appended
pub record Extended : Type 0 where
  pub history : History
  pub end : Result ScheduleEnd AppendFault

-- what a schedule has next after n events, as far as 64 bits count them
abbrev pub next_after : Schedule → (n : ℕ) → State → Next
next_after u n s = next_event u None (min n (2 ^ 64 - 1)) s.tables

-- what it has next behind the last event, where `first` were done before the history
abbrev pub next_in : Schedule → (first : ℕ) → History → Next
next_in u first h = next_after u (first + length h.events) (last_state h)

-- no further event
abbrev pub over : Result ScheduleEnd AppendFault → History → Extended
over end h = record { history = h; end = end }

-- an event is appended, and more follow, unless it can't be
abbrev pub unless_refused : (more : History → Extended) → Event → Option AppendFault → History → Extended
unless_refused more e None h = more (with_event e h)
unless_refused more e (Some fault) h = over (Err fault) h

-- what is next is appended, and more follow
abbrev pub extended_by : (more : History → Extended) → Next → History → Extended
extended_by more (Submit e) h = unless_refused more e (append_fault e h) h
extended_by more (End end) h = over (Ok end) h

-- as many events were made as were to be; the program may have ended with the last of them
abbrev pub enough : Status → ScheduleEnd
enough status = if is_running status then Enough else Ended

-- so many events at most are appended, each the one that is next
abbrev pub extended : (most : ℕ) → Schedule → (first : ℕ) → History → Extended
extended zero u first h = over (Ok (enough (last_state h).tables.status)) h
extended (suc most) u first h = extended_by (extended most u first) (next_in u first h) h

-- only where somebody stands at the end
abbrev pub extension : (most : ℕ) → Schedule → (first : ℕ) → History → Extended
extension most u first h =
    if nat_lt h.position.events (length h.events) then over (Err NotAtEnd) h else extended most u first h

-- ONE EVENT

-- more follow behind an event that was appended; nothing does where there was none
abbrev pub going_on : (more : History → Extended) → Option (Result ScheduleEnd AppendFault) → History → Extended
going_on more None h = more h
going_on more (Some end) h = over end h

-- IN PLAIN TERMS

-- n events were made, and then each of these is the one that the schedule has next, and the machine takes it
abbrev pub AreBySchedule : Schedule → (n : ℕ) → List Event → State → Type 0
AreBySchedule u n [] s = Unit {0}
AreBySchedule u n (e ∷ es) s =
    (next_after u n s ≡ Submit e) × (refusal_of 0 e s ≡ None) × AreBySchedule u (suc n) es (step e s).state

-- the events of a history that goes on are the old ones, and then some by the schedule
pub record GoesBySchedule (most : ℕ) (u : Schedule) (first : ℕ) (h new : History) : Type 0 where
  pub events : List Event
  pub history : new ≡ ending_with (h.events ++ events) h
  pub by_schedule : AreBySchedule u (first + length h.events) events (last_state h)
  pub few : length events ≤ most

-- at the end of a history, however many there may be
abbrev pub GoOnBySchedule : Type 0
GoOnBySchedule =
    (most : ℕ) (u : Schedule) (first : ℕ) (h : History) → h.position ≡ end_of h.events
    → GoesBySchedule most u first h (extension most u first h).history
