-- Which tables of threads and mutexes are well-formed together.
use Rattle.std.specs.Prelude.{◌≡◌, ◌≤◌, ℕ, nat_lt, Bool, true, false, ◌&&◌, ◌||◌, not, if◌then◌else◌, List, Option, Some, None}
use Rattle.std.specs.List.{list_all}
use Rattle.ckrt_thread.specs.declared.records.Wait.{Wait}
use Rattle.ckrt_thread.specs.declared.records.Reason.{Reason}
use Rattle.ckrt_thread.specs.declared.records.Reason.TheVariants as reason
use Rattle.ckrt_thread.specs.State.{State}
use Rattle.ckrt_objects.specs.declared.address_map.Entry.{Entry}
use Rattle.ckrt_mutex.specs.declared.records.Mutex.{Mutex}
use Rattle.ckrt_mutex.specs.Mutex.{is_owned, is_owner, is_normal, is_recursive, mutex_at, IsTable, MAX_RECURSIVE_COUNT}
use Rattle.ckrt_mutex.specs.Rows.{named, used_count}

abbrev pub is_lock : Reason → Bool
is_lock (reason.Lock a) = true
is_lock _ = false

abbrev pub is_retake : Reason → Bool
is_retake (reason.Retake a r) = true
is_retake _ = false

abbrev pub is_condition : Reason → Bool
is_condition (reason.Condition c a) = true
is_condition _ = false

-- RULES for a wait that names a mutex, m.

-- Nobody waits at a free mutex.
abbrev pub waits_at_owned : Mutex → Wait → Bool
waits_at_owned m w = if is_lock w.reason || is_retake w.reason then is_owned m else true

-- Who waits to lock its own mutex waits for a normal one.
abbrev pub relocks_normal : Mutex → Wait → Bool
relocks_normal m w = if is_lock w.reason && is_owner w.thread m then is_normal m.kind else true

-- Nobody waits to retake its own mutex.
abbrev pub retakes_of_another : Mutex → Wait → Bool
retakes_of_another m w = if is_retake w.reason then not (is_owner w.thread m) else true

-- A thread owns a mutex that it will retake only if the mutex is recursive, and can be locked once more.
abbrev pub can_retake : ℕ → Mutex → Bool
can_retake t m = if is_owner t m then is_recursive m.kind && nat_lt m.count MAX_RECURSIVE_COUNT else true

-- A condition waiter can retake its mutex.
abbrev pub can_wake : Mutex → Wait → Bool
can_wake m w = if is_condition w.reason then can_retake w.thread m else true

-- the four rules
abbrev pub may_wait_at : Mutex → Wait → Bool
may_wait_at m w = waits_at_owned m w && relocks_normal m w && retakes_of_another m w && can_wake m w

abbrev pub meets_at : (Mutex → Wait → Bool) → List (Entry Mutex) → Option ℕ → Wait → Bool
meets_at rule ms None w = true
meets_at rule ms (Some a) w = rule (mutex_at a ms) w

-- whether a wait meets a rule at the mutex that it names, if it names one
abbrev pub meets : (Mutex → Wait → Bool) → List (Entry Mutex) → Wait → Bool
meets rule ms w = meets_at rule ms (named w) w

abbrev pub AllMeet : (Mutex → Wait → Bool) → State → List (Entry Mutex) → Type 0
AllMeet rule s ms = list_all (meets rule ms) s.waits ≡ true

pub record IsWellFormedWith (s : State) (ms : List (Entry Mutex)) : Type 0 where
  pub table : IsTable ms
  pub at_most_256_in_use : used_count s ms ≤ 256
  pub nobody_waits_at_a_free_mutex : AllMeet waits_at_owned s ms
  pub only_a_normal_mutex_waits_for_its_owner : AllMeet relocks_normal s ms
  pub nobody_retakes_its_own_mutex : AllMeet retakes_of_another s ms
  pub condition_waiters_can_retake : AllMeet can_wake s ms
