-- What a drive does next (this project's choice). Which event comes next is a function of what the input gives, of the schedule, of how many
-- events were accepted since the disk was formatted, and of the tables; what is saved when is one of what is pending and of the journal's room.
-- A drive remembers nothing of it but how many events are left to it, and how many bytes of its input the program has taken.
use Rattle.std.specs.Prelude.{ℕ, ◌+◌, ◌-◌, ◌*◌, ◌==◌, ◌||◌, ◌&&◌, nat_lt, nat_le, Bool, true, false, if◌then◌else◌, Option, Some, None, Result, Ok, Err}
use Rattle.ckrt_journal.specs.Chain.{FRAME_BYTES}
use Rattle.ckrt_calls.specs.declared.table.Tables.{Tables}
use Rattle.ckrt_events.specs.Bytes.{BATCH_LIMIT}
use Rattle.ckrt_events.specs.declared.event.Event.{Event}
use Rattle.ckrt_machine.specs.declared.event.Refusal.TheVariants.{OutputFull}
use Rattle.ckrt_machine.specs.Events.{step}
use Rattle.ckrt_machine.specs.Runs.{is_running}
use Rattle.ckrt_stored.specs.Recovery.{room_of}
use Rattle.ckrt_recovery.specs.declared.fault.SubmitFault.{SubmitFault}
use Rattle.ckrt_recovery.specs.declared.fault.SubmitFault.TheVariants as fault
use Rattle.ckrt_recovery.specs.View.{View, refusal_of, version_of}
use Rattle.ckrt_schedule.specs.declared.next.Next.{Next}
use Rattle.ckrt_schedule.specs.declared.next.Next.TheVariants.{Submit, End}
use Rattle.ckrt_schedule.specs.declared.next.ScheduleEnd.TheVariants.{Enough}
use Rattle.ckrt_schedule.specs.declared.schedule.Schedule.{Schedule}
use Rattle.ckrt_schedule.specs.Schedules.{next_event, places_of}
use Rattle.ckrt_drive.specs.declared.options.Options.{Options}
use Rattle.ckrt_drive.specs.declared.fault.DriveFault.{DriveFault}
use Rattle.ckrt_drive.specs.declared.fault.DriveFault.TheVariants.{Refused}
use Rattle.ckrt_drive.specs.declared.step_done.StepDone.{StepDone}
use Rattle.ckrt_drive.specs.declared.step_done.StepDone.TheVariants.{Submitted, Committed, Checkpointed, Released, Stopped}
use Rattle.ckrt_drive.specs.declared.supply.Supply.{Supply}

-- THE NEXT EVENT

-- by what the events of a drive are chosen: how many steps a run has at most, and the seed of its lots, where it has one
abbrev pub schedule_of : Options → Schedule
schedule_of o = record { turn = o.turn; seed = o.seed }

-- the event that is next after n others for a drive with this supply, or why there is none
abbrev pub next : Schedule → Supply → (n : ℕ) → Tables → Next
next u w n s = if is_running s.status && (w.left == 0) then End Enough else next_event u w.given n s

-- SAVING

-- the most bytes that a batch takes of a journal
abbrev pub LONGEST_BATCH : ℕ
LONGEST_BATCH = BATCH_LIMIT + FRAME_BYTES

-- nothing is pending: all events are acknowledged
abbrev pub is_settled : View → Bool
is_settled v = v.acknowledged == v.recovered.count

-- the area is of version 1: its journal has no long runs
abbrev pub is_old : View → Bool
is_old v = nat_lt (version_of v) 2

-- the journal has a batch, and might have no room for another
abbrev pub is_filled : View → Bool
is_filled v =
    nat_lt 0 v.recovered.journal.next_gate && nat_lt (room_of v.recovered.journal) LONGEST_BATCH

-- a checkpoint comes first: with nothing pending, so the last batch stands in the journal that it leaves
abbrev pub is_checkpoint_due : View → Bool
is_checkpoint_due v = is_settled v && (is_old v || is_filled v)

-- a commit does: what is pending has as many events as the rounds between two commits, or keeps a checkpoint waiting
abbrev pub is_commit_due : Options → View → Bool
is_commit_due o v =
    is_old v
    || nat_le (o.rounds * places_of v.recovered.state.tables) (v.recovered.count - v.acknowledged)

-- room for an event that the session has no place for
abbrev pub make_room : View → StepDone
make_room v = if is_settled v then Checkpointed else Committed

-- a commit or a checkpoint makes room for the event
abbrev pub is_shortage : SubmitFault → Bool
is_shortage fault.Failed = false
is_shortage fault.NeedsCheckpoint = false
is_shortage (fault.Refused OutputFull) = true
is_shortage (fault.Refused _) = false
is_shortage fault.BatchFull = true
is_shortage fault.JournalFull = true
is_shortage fault.CountersUsed = false

-- THE PLAN

-- an event that the session takes, with what it comes to, or refuses so
abbrev pub offered : View → Event → Option SubmitFault → Result StepDone DriveFault
offered v e None = Ok (Submitted e (step e v.recovered.state).answer)
offered v e (Some why) = if is_shortage why then Ok (make_room v) else Err (Refused why)

-- an event is offered, and an end waits until all is acknowledged
abbrev pub plan_for : Next → View → Result StepDone DriveFault
plan_for (Submit e) v = offered v e (refusal_of v e)
plan_for (End ending) v = if is_settled v then Ok (Stopped ending) else Ok Committed

-- what is planned where nothing has to be saved first
abbrev pub plan_next : Options → Supply → View → Result StepDone DriveFault
plan_next o w v = plan_for (next (schedule_of o) w v.recovered.count v.recovered.state.tables) v

-- what is planned where all released output is confirmed
abbrev pub plan_onward : Options → Supply → View → Result StepDone DriveFault
plan_onward o w v = if is_checkpoint_due v then Ok Checkpointed else if is_commit_due o v then Ok Committed else plan_next o w v

-- released output goes out first
abbrev pub plan : Options → Supply → View → Result StepDone DriveFault
plan o w v = if nat_lt v.recovered.confirmed v.released then Ok Released else plan_onward o w v

-- how many events are left after what the drive did
abbrev pub left_after : StepDone → (left : ℕ) → ℕ
left_after (Submitted e answer) left = left - 1
left_after Committed left = left
left_after Checkpointed left = left
left_after Released left = left
left_after (Stopped ending) left = left
