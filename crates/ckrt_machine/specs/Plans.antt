-- Whom to put onto a hart next: round robin by id (this project's choice).
use Rattle.std.specs.Prelude.{ℕ, zero, suc, ◌-◌, ◌+◌, nat_lt, if◌then◌else◌, Option, Some, None, ◌&&◌}
use Rattle.ckrt_thread.specs.State as threads
use Rattle.ckrt_calls.specs.declared.table.Tables.{Tables}
use Rattle.ckrt_machine.specs.Steps.{hart_of}
use Rattle.ckrt_machine.specs.Runs.{is_running}

-- the least thread of t, t + 1, .. that is ready and on no hart, among n of them
abbrev pub ready_from : ℕ → ℕ → threads.State → Option ℕ
ready_from zero t s = None
ready_from (suc n) t s = if threads.is_ready s t then Some t else ready_from n (t + 1) s

-- ids end at 64
abbrev pub least_ready : ℕ → threads.State → Option ℕ
least_ready t s = ready_from (65 - t) t s

abbrev pub or_else : Option ℕ → Option ℕ → Option ℕ
or_else None o = o
or_else (Some t) o = Some t

abbrev pub or_zero : Option ℕ → ℕ
or_zero None = 0
or_zero (Some t) = t

-- the least above the thread on the hart, else the least at all
abbrev pub next_ready : ℕ → Tables → Option ℕ
next_ready h s =
    or_else (least_ready (or_zero (hart_of s h) + 1) s.threads) (least_ready 1 s.threads)

-- nobody, once the program ended, or where there is no such hart
abbrev pub planned : ℕ → Tables → Option ℕ
planned h s = if is_running s.status && nat_lt h s.threads.hart_count then next_ready h s else None
