-- The status with which the program ends.
use Rattle.std.specs.Prelude.{if◌then◌else◌, ℕ, nat_eq, Option, Some, None, Result, Ok, Err}
use Rattle.ckrt_calls.specs.declared.table.Status.{Status}
use Rattle.ckrt_calls.specs.declared.table.Status.TheVariants as status
use Rattle.ckrt_schedule.specs.declared.next.ScheduleEnd.{ScheduleEnd}
use Rattle.ckrt_schedule.specs.declared.next.ScheduleEnd.TheVariants.{Ended, WaitsForInput, Deadlock, Enough}
use Rattle.ckrt_cli_words.specs.declared.job.WordsFault.{WordsFault}
use Rattle.ckrt_cli_words.specs.declared.job.WordsFault.TheVariants as words
use Rattle.ckrt_cli_reports.specs.declared.done.Done.{Done}
use Rattle.ckrt_cli_reports.specs.declared.done.Done.TheVariants as done
use Rattle.ckrt_cli_reports.specs.declared.fault.JobFault.{JobFault}

-- of a guest that ended: 0 by `exit 0` alone, 7 by another exit status, 6 by a fault; 5 of one that still runs
abbrev pub ended_status : Status → ℕ
ended_status status.Running = 5
ended_status (status.Exited code) = if nat_eq code 0 then 0 else 7
ended_status (status.Faulted t pc c) = 6

-- 3 where a thread waits for input, 4 where none can ever go on, 5 where the drive had enough events
abbrev pub end_status : Option ScheduleEnd → Status → ℕ
end_status None status = 5
end_status (Some Ended) status = ended_status status
end_status (Some WaitsForInput) status = 3
end_status (Some Deadlock) status = 4
end_status (Some Enough) status = 5

-- the program's status for a job: 0 where it is done; of a drive, its end's; of a hunt with several outcomes, or a race, 8, and 9
-- of one whose runs all had one outcome other than `exit 0`
abbrev pub status_of : Result Done JobFault → ℕ
status_of (Ok done.Whole) = 0
status_of (Ok (done.Driven driven)) = end_status driven.ending driven.status
status_of (Ok done.Several) = 8
status_of (Ok done.Bad) = 9
status_of (Err fault) = 1

-- and for words that name none
abbrev pub status_of_words : WordsFault → ℕ
status_of_words (words.Usage text) = 2
status_of_words words.OutOfMemory = 1
