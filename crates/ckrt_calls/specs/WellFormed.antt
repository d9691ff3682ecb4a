-- Which tables a program may have: the rules of its parts, and those that join the parts. Where no page is named they are this project's choice.
use Rattle.std.specs.Prelude.{◌≡◌, ◌==◌, ◌%◌, ◌<◌, ◌≤◌, ℕ, Bool, true, not, ◌&&◌, if◌then◌else◌, List, [], ◌∷◌, length}
use Rattle.std.specs.List.{list_all}
use Rattle.ckrt_rv32i.specs.declared.execution.Cause.{Cause}
use Rattle.ckrt_thread.specs.declared.records.Wait.{Wait}
use Rattle.ckrt_thread.specs.declared.records.Object.TheVariants as object
use Rattle.ckrt_thread.specs.Waits.{is_for, MOMENT_END}
use Rattle.ckrt_thread.specs.Deadlines.{is_ahead}
use Rattle.ckrt_thread.specs.State as thread
use Rattle.ckrt_mutex.specs.WellFormed as mutex
use Rattle.ckrt_cond.specs.WellFormed as condition
use Rattle.ckrt_barrier.specs.WellFormed as barrier
use Rattle.ckrt_rwlock.specs.WellFormed as rwlock
use Rattle.ckrt_calls.specs.declared.table.Status.{Status}
use Rattle.ckrt_calls.specs.declared.table.Status.TheVariants.{Running, Exited, Faulted}
use Rattle.ckrt_calls.specs.declared.table.Tables.{Tables}

-- how many bytes of input may wait to be read
abbrev pub INPUT_LIMIT : ℕ
INPUT_LIMIT = 4096

-- a byte, or the end of the input, is there to be read
abbrev pub may_be_read : List ℕ → Bool → Bool
may_be_read [] closed = closed
may_be_read (b ∷ bs) closed = true

abbrev pub lacks_input : List ℕ → Bool → Wait → Bool
lacks_input input closed w = if is_for object.Input w then not (may_be_read input closed) else true

-- the clock has not reached the wait's deadline, if it has one
abbrev pub lies_ahead : ℕ → Wait → Bool
lies_ahead clock w = is_ahead clock w.deadline

pub record IsWellFormed (s : Tables) : Type 0 where
  -- the rules of threads, waits and harts
  pub threads : thread.IsWellFormed s.threads
  -- the rules of mutexes, and those that join them with waits
  pub mutexes : mutex.IsWellFormedWith s.threads s.mutexes
  -- the rules of waits at conditions
  pub conditions : condition.IsWellFormed s.threads
  -- the rules of barriers, and those that join them with waits
  pub barriers : barrier.IsWellFormedWith s.threads s.barriers
  -- the rules of read-write locks, and those that join them with waits
  pub rwlocks : rwlock.IsWellFormedWith s.threads s.rwlocks
  -- a program that runs has a thread that has not ended (POSIX.1-2017, pthread_exit: the process exits with its last thread)
  pub running : s.status ≡ Running → thread.is_any_live s.threads ≡ true
  -- while the program runs the clock has reached no deadline
  pub deadlines : s.status ≡ Running → list_all (lies_ahead s.clock) s.threads.waits ≡ true
  -- who waits for input has no byte to read, and the input has not ended
  pub readers : list_all (lacks_input s.input s.closed) s.threads.waits ≡ true
  -- the end of time is never reached
  pub clock : s.clock < MOMENT_END
  -- no more input waits than may
  pub input : length s.input ≤ INPUT_LIMIT
  -- a thread that faulted has not ended, and the pc of its fault is a multiple of 4
  pub fault : (t pc : ℕ) (cause : Cause) → s.status ≡ Faulted t pc cause
      → thread.is_live s.threads t ≡ true
  pub fault_pc : (t pc : ℕ) (cause : Cause) → s.status ≡ Faulted t pc cause → pc % 4 ≡ 0

-- THE SAME AS A TEST of the status: who must not have ended, and which deadlines may not have come.
abbrev pub may_be_its_status : Status → ℕ → thread.State → Bool
may_be_its_status Running clock s = thread.is_any_live s && list_all (lies_ahead clock) s.waits
may_be_its_status (Exited code) clock s = true
may_be_its_status (Faulted t pc cause) clock s = thread.is_live s t && pc % 4 == 0
