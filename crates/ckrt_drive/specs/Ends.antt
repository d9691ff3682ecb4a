-- The ends of a drive, in plain terms.
use Rattle.std.specs.Prelude.{◌≡◌, ◌≤◌, ◌<◌, ℕ, true, false, None, List, All, Contains}
use Rattle.ckrt_thread.specs.declared.records.Wait.{Wait}
use Rattle.ckrt_thread.specs.declared.records.Object.TheVariants.{Input}
use Rattle.ckrt_thread.specs.State.{is_ready}
use Rattle.ckrt_thread.specs.Waits.{is_for}
use Rattle.ckrt_calls.specs.declared.table.Tables.{Tables}
use Rattle.ckrt_machine.specs.Steps.{hart_of}
use Rattle.ckrt_machine.specs.Runs.{is_running}
use Rattle.ckrt_schedule.specs.declared.next.ScheduleEnd.{ScheduleEnd}
use Rattle.ckrt_schedule.specs.declared.next.ScheduleEnd.TheVariants.{Ended, WaitsForInput, Deadlock, Enough}

-- No thread can go on, however long one waits.
pub record IsStuck (s : Tables) : Type 0 where
  -- the program hasn't ended
  pub running : is_running s.status ≡ true
  -- no thread is on a hart
  pub idle : (h : ℕ) → h < s.threads.hart_count → hart_of s h ≡ None
  -- nor ready for one, where there is one
  pub unready : 0 < s.threads.hart_count → (t : ℕ) → 1 ≤ t → t ≤ 64 → is_ready s.threads t ≡ false
  -- and no wait has a deadline
  pub endless : All (λ w. w.deadline ≡ None) s.threads.waits

-- a wait is for input
abbrev pub IsRead : List Wait → Type 0
IsRead ws = (w : Wait) × Contains ws w × (is_for Input w ≡ true)

-- no wait is
abbrev pub IsUnread : List Wait → Type 0
IsUnread ws = All (λ w. is_for Input w ≡ false) ws

-- nobody can ever go on, whatever is put in
pub record IsDeadlock (s : Tables) : Type 0 where
  pub stuck : IsStuck s
  pub unread : IsUnread s.threads.waits

-- nobody can go on unless input comes
pub record IsHungry (s : Tables) : Type 0 where
  pub stuck : IsStuck s
  pub read : IsRead s.threads.waits

-- what an end says of the program; one that goes on had all its events
abbrev pub IsEnd : ScheduleEnd → (left : ℕ) → Tables → Type 0
IsEnd Ended left s = is_running s.status ≡ false
IsEnd WaitsForInput left s = IsHungry s
IsEnd Deadlock left s = IsDeadlock s
IsEnd Enough left s = (is_running s.status ≡ true) × (left ≡ 0)
