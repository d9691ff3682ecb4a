-- What the system answers to a read or write by offset.
use Rattle.std.specs.Prelude.{◌+◌, ℕ, nat_eq, if◌then◌else◌, Result, Ok, Err}
use Rattle.std.specs.IoError.{error_kind}
use Rattle.std.specs.declared.io.Error.{Error}
use Rattle.std.specs.declared.io.ErrorKind.{ErrorKind}
use Rattle.std.specs.declared.io.ErrorKind.TheVariants as kind
use Rattle.ckrt_disk.specs.declared.transfer.Transfer.{Transfer}
use Rattle.ckrt_disk.specs.declared.transfer.Transfer.TheVariants.{Done, Interrupted, Failed}

-- P of the count of bytes, where some were transferred
abbrev pub OnDone : Transfer → (ℕ → Type 0) → Type 0
OnDone (Done n) P = P n
OnDone Interrupted P = Unit {0}
OnDone Failed P = Unit {0}

-- P where a signal came first, Q where there was an error
abbrev pub OnStopped : Transfer → Type 0 → Type 0 → Type 0
OnStopped (Done n) P Q = Unit {0}
OnStopped Interrupted P Q = P
OnStopped Failed P Q = Q

-- Q where there was an error
abbrev pub OnFailed : Transfer → Type 0 → Type 0
OnFailed answer Q = OnStopped answer (Unit {0}) Q

-- the count of errors after a call with this answer: bytes that were transferred are none, and neither is a signal
abbrev pub errors_after : Transfer → ℕ → ℕ
errors_after (Done n) errors = errors
errors_after Interrupted errors = errors
errors_after Failed errors = errors + 1

-- the count of interrupted calls after it
abbrev pub interruptions_after : Transfer → ℕ → ℕ
interruptions_after (Done n) interruptions = interruptions
interruptions_after Interrupted interruptions = interruptions + 1
interruptions_after Failed interruptions = interruptions

-- what a read or write is that the system ended by an error: a signal is none
abbrev pub ended_by : ErrorKind → Transfer
ended_by kind.Interrupted = Interrupted
ended_by _ = Failed

-- what the system's answer to a read or write is: no byte at all is an error, being the end of the file or no room
abbrev pub answer_of : Result ℕ Error → Transfer
answer_of (Ok n) = if nat_eq n 0 then Failed else Done n
answer_of (Err error) = ended_by (error_kind error)
