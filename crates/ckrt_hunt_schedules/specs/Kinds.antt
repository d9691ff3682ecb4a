-- Of which kind an outcome is, and what the outcomes of all runs come to (this project's choice).
use Rattle.std.specs.Prelude.{ℕ, ◌==◌, ◌&&◌, if◌then◌else◌, List, length, slice_get, Option, Some, None}
use Rattle.ckrt_hunt_schedules.specs.declared.kind.Kind.{Kind}
use Rattle.ckrt_hunt_schedules.specs.declared.kind.Kind.TheVariants as kind
use Rattle.ckrt_hunt_schedules.specs.declared.outcome.Outcome.{Outcome}
use Rattle.ckrt_hunt_schedules.specs.declared.outcome.Outcome.TheVariants as outcome
use Rattle.ckrt_hunt_schedules.specs.declared.row.Row.{Row}
use Rattle.ckrt_hunt_schedules.specs.declared.verdict.Verdict.{Verdict}
use Rattle.ckrt_hunt_schedules.specs.declared.verdict.Verdict.TheVariants.{Good, Several, Bad}

abbrev pub kind_of : Outcome → Kind
kind_of (outcome.Faulted t pc c) = kind.Fault
kind_of (outcome.Deadlock waiting) = kind.Deadlock
kind_of (outcome.Exited status) = if status == 0 then kind.ExitZero else kind.OtherStatus
kind_of (outcome.NoEnd circle) = kind.NoEnd
kind_of outcome.WaitsForInput = kind.WaitsForInput

-- of the one outcome of all runs: there is none to be glad of but `exit 0`
abbrev pub verdict_by : Kind → Verdict
verdict_by kind.Fault = Bad
verdict_by kind.Deadlock = Bad
verdict_by kind.OtherStatus = Bad
verdict_by kind.NoEnd = Bad
verdict_by kind.WaitsForInput = Bad
verdict_by kind.ExitZero = Good

abbrev pub verdict_of_row : Option Row → Verdict
verdict_of_row None = Several
verdict_of_row (Some r) = verdict_by (kind_of r.told.outcome)

-- of these outcomes, and of runs that none of them counts
abbrev pub verdict_of : List Row → (others : ℕ) → Verdict
verdict_of rows others =
    if length rows == 1 && others == 0 then verdict_of_row (slice_get rows 0) else Several
