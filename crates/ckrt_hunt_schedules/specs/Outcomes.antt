-- What a run comes to (this project's choice).
use Rattle.std.specs.Prelude.{ℕ, zero, suc, ◌==◌, Bool, true, false, ◌||◌, if◌then◌else◌, Option, Some, None, List, [], ◌∷◌, ◌++◌}
use Rattle.std.specs.List.{find}
use Rattle.sha2.specs.Sha256.{sha256}
use Rattle.ckrt_objects.specs.declared.address_map.Entry.{Entry}
use Rattle.ckrt_objects.specs.AddressMap.{lookup}
use Rattle.ckrt_mutex.specs.declared.records.Mutex.{Mutex}
use Rattle.ckrt_thread.specs.Waits.{is_of}
use Rattle.ckrt_thread.specs.declared.records.Reason.{Reason}
use Rattle.ckrt_thread.specs.declared.records.Reason.TheVariants as reason
use Rattle.ckrt_thread.specs.declared.records.Wait.{Wait}
use Rattle.ckrt_calls.specs.declared.table.Status.{Status}
use Rattle.ckrt_calls.specs.declared.table.Status.TheVariants as status
use Rattle.ckrt_calls.specs.declared.table.Tables.{Tables}
use Rattle.ckrt_schedule.specs.declared.next.ScheduleEnd.{ScheduleEnd}
use Rattle.ckrt_schedule.specs.declared.next.ScheduleEnd.TheVariants as ending
use Rattle.ckrt_hunt_schedules.specs.declared.outcome.Awaited.{Awaited}
use Rattle.ckrt_hunt_schedules.specs.declared.outcome.Awaited.TheVariants as awaited
use Rattle.ckrt_hunt_schedules.specs.declared.outcome.Outcome.{Outcome}
use Rattle.ckrt_hunt_schedules.specs.declared.outcome.Outcome.TheVariants as outcome
use Rattle.ckrt_hunt_schedules.specs.declared.outcome.Waiting.{Waiting}

abbrev pub owner_in : Option Mutex → Option ℕ
owner_in None = None
owner_in (Some m) = m.owner

-- who has the mutex at an address
abbrev pub owner_of : ℕ → List (Entry Mutex) → Option ℕ
owner_of a ms = owner_in (lookup a ms)

-- what a wait is for, with these mutexes
abbrev pub awaited_by : List (Entry Mutex) → Reason → Awaited
awaited_by ms reason.Input = awaited.Input
awaited_by ms reason.Sleep = awaited.Deadline
awaited_by ms (reason.Join t) = awaited.End t
awaited_by ms (reason.Lock a) = awaited.Mutex a (owner_of a ms)
awaited_by ms (reason.Retake a result) = awaited.Mutex a (owner_of a ms)
awaited_by ms (reason.Condition a mutex) = awaited.Condition a
awaited_by ms (reason.Barrier a) = awaited.Barrier a
awaited_by ms (reason.Read a) = awaited.Read a
awaited_by ms (reason.Write a) = awaited.Write a

-- the thread with what it waits for, if it waits
abbrev pub waiting_by : List (Entry Mutex) → ℕ → Option Wait → List Waiting
waiting_by ms t None = []
waiting_by ms t (Some w) = record { thread = t; awaited = awaited_by ms w.reason } ∷ []

-- which of the threads 1 to n wait, and for what
unfoldable pub waiting_among : Tables → (n : ℕ) → List Waiting
waiting_among s zero = []
waiting_among s (suc n) =
    waiting_among s n ++ waiting_by s.mutexes (suc n) (find (is_of (suc n)) s.threads.waits)

-- WHO WAITS FOR WHOM IN A CIRCLE: each for the owner of a mutex, or for the end of a thread, without a deadline

-- whom a thread waits for that waits for this
abbrev pub awaited_thread : Awaited → Option ℕ
awaited_thread (awaited.End t) = Some t
awaited_thread (awaited.Mutex a owner) = owner
awaited_thread awaited.Input = None
awaited_thread awaited.Deadline = None
awaited_thread (awaited.Condition a) = None
awaited_thread (awaited.Barrier a) = None
awaited_thread (awaited.Read a) = None
awaited_thread (awaited.Write a) = None

-- a wait with a deadline is for nobody, since it ends by itself
abbrev pub blocker_until : Awaited → (deadline : Option ℕ) → Option ℕ
blocker_until a None = awaited_thread a
blocker_until a (Some moment) = None

abbrev pub blocker_by : List (Entry Mutex) → Option Wait → Option ℕ
blocker_by ms None = None
blocker_by ms (Some w) = blocker_until (awaited_by ms w.reason) w.deadline

abbrev pub blocker_of : Tables → (t : ℕ) → Option ℕ
blocker_of s t = blocker_by s.mutexes (find (is_of t) s.threads.waits)

-- the thread is reached from another one, itself or whom it waits for and so on, within n threads
unfoldable pub is_reached : Tables → (t n : ℕ) → (from : Option ℕ) → Bool
is_reached s t zero from = false
is_reached s t (suc n) None = false
is_reached s t (suc n) (Some u) = u == t || is_reached s t n (blocker_of s u)

-- by those that it waits for a thread waits for itself: there are 64 threads
abbrev pub is_in_circle : Tables → (t : ℕ) → Bool
is_in_circle s t = is_reached s t 64 (blocker_of s t)

abbrev pub circled_by : (is_in_circle : Bool) → List Waiting → List Waiting
circled_by is_in_circle waiting = if is_in_circle then waiting else []

-- which of the threads 1 to n wait in a circle, and for what
unfoldable pub circled_among : Tables → (n : ℕ) → List Waiting
circled_among s zero = []
circled_among s (suc n) =
    circled_among s n
    ++ circled_by (is_in_circle s (suc n)) (waiting_by s.mutexes (suc n) (find (is_of (suc n)) s.threads.waits))

-- a run that didn't end; others may have gone on beside those that wait in a circle
abbrev pub no_end : Tables → Outcome
no_end s = outcome.NoEnd (record { items = circled_among s 64 })

-- how the program has ended
abbrev pub by_status : Tables → Status → Outcome
by_status s status.Running = no_end s
by_status s (status.Exited v) = outcome.Exited v
by_status s (status.Faulted t pc c) = outcome.Faulted t pc c

-- what a run comes to that ends so, with these tables
abbrev pub outcome_of : ScheduleEnd → Tables → Outcome
outcome_of ending.Ended s = by_status s s.status
outcome_of ending.WaitsForInput s = outcome.WaitsForInput
outcome_of ending.Deadlock s = outcome.Deadlock (record { items = waiting_among s 64 })
outcome_of ending.Enough s = no_end s

-- the digest of its output, where the program exited: two runs with one status and two outputs come to two things, unless outputs are ignored
abbrev pub digest_of : (ignores_output : Bool) → Outcome → (output : List ℕ) → Option (List ℕ)
digest_of true o output = None
digest_of false (outcome.Exited status) output = Some (sha256 output)
digest_of false (outcome.Faulted t pc c) output = None
digest_of false (outcome.Deadlock waiting) output = None
digest_of false outcome.WaitsForInput output = None
digest_of false (outcome.NoEnd circle) output = None
