-- How the program tells what a drive came to: a line on standard error.
use Rattle.std.specs.Prelude.{ℕ, nat_eq, List, [], ◌∷◌, ◌++◌, codes, if◌then◌else◌, Option, Some, None}
use Rattle.ckrt_calls.specs.declared.table.Status.{Status}
use Rattle.ckrt_calls.specs.declared.table.Status.TheVariants as status
use Rattle.ckrt_inspect.specs.Texts.{hex_text, status_text}
use Rattle.ckrt_inspect.specs.declared.metrics.Standing.{Standing}
use Rattle.ckrt_inspect.specs.declared.metrics.Standing.TheVariants as stands
use Rattle.ckrt_schedule.specs.declared.next.ScheduleEnd.{ScheduleEnd}
use Rattle.ckrt_schedule.specs.declared.next.ScheduleEnd.TheVariants.{Ended, WaitsForInput, Deadlock, Enough}
use Rattle.ckrt_drive.specs.declared.step_done.StepDone.{StepDone}
use Rattle.ckrt_drive.specs.declared.step_done.StepDone.TheVariants.{Stopped}
use Rattle.ckrt_cli_reports.specs.declared.driven.Driven.{Driven}

-- the address that a fault is about, behind a space
abbrev pub address_text : Option ℕ → List ℕ
address_text None = []
address_text (Some address) = codes " " ++ hex_text address

-- a word in hexadecimal between two texts
abbrev pub hex_between : (before : List ℕ) → ℕ → (behind : List ℕ) → List ℕ
hex_between before word behind = before ++ (hex_text word ++ behind)

-- the commands that name a fault's place in the source, and what its address is
abbrev pub place_text : ℕ → Option ℕ → List ℕ
place_text pc address =
    hex_between (codes "`guest/where PROGRAM.elf ") pc [] ++ (address_text address ++ hex_between (codes "` says where that is; so does `addr2line -e PROGRAM.elf ") pc (codes "`\n"))

-- the status of a guest of the kit that couldn't begin, and what that means
abbrev pub UNBEGUN : ℕ
UNBEGUN = 126

abbrev pub unbegun_text : List ℕ
unbegun_text =
    codes "exit 126: the guest couldn't begin, and its output says why; "
    ++ codes "if it needs more pages, remove disk and output, and give it --pages\n"

-- what stands before an end that the guest didn't choose: a fault, or no beginning
abbrev pub hint_text : Status → Option ℕ → List ℕ
hint_text (status.Faulted t pc c) address = place_text pc address
hint_text (status.Exited code) address = if nat_eq code UNBEGUN then unbegun_text else []
hint_text status.Running address = []

-- how a program ended, as the inspector tells it, and what its fault is about
abbrev pub ended_text : Status → Option ℕ → List ℕ
ended_text status address = hint_text status address ++ (codes "ended: " ++ (status_text status ++ address_text address))

-- the end in words
abbrev pub end_text : Option ScheduleEnd → Status → Option ℕ → List ℕ
end_text None status address = codes "enough"
end_text (Some Ended) status address = ended_text status address
end_text (Some WaitsForInput) status address = codes "waits for input"
end_text (Some Deadlock) status address = codes "deadlock"
end_text (Some Enough) status address = codes "enough"

abbrev pub end_line : Driven → List ℕ
end_line driven = end_text driven.ending driven.status driven.address ++ 10 ∷ []

-- how a drive stands behind a step: at the end that it came to, or before one
abbrev pub standing_of : StepDone → Standing
standing_of (Stopped Ended) = stands.Ended
standing_of (Stopped WaitsForInput) = stands.WaitsForInput
standing_of (Stopped Deadlock) = stands.Deadlock
standing_of (Stopped Enough) = stands.Enough
standing_of _ = stands.Running
