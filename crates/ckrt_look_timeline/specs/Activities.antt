-- What a thread does at a step, from the state before it.
use Rattle.std.specs.Prelude.{ℕ, if◌then◌else◌, Option, Some, None, slice_get}
use Rattle.std.specs.List.{find}
use Rattle.std.specs.Option.{option_flatten}
use Rattle.ckrt_thread.specs.State.{State, holds, thread_of}
use Rattle.ckrt_thread.specs.Waits.{is_of}
use Rattle.ckrt_thread.specs.declared.records.Reason.{Reason}
use Rattle.ckrt_thread.specs.declared.records.Reason.TheVariants as reason
use Rattle.ckrt_thread.specs.declared.records.Wait.{Wait}
use Rattle.ckrt_look_timeline.specs.Still.{standing}
use Rattle.ckrt_look_timeline.specs.declared.piece.Activity.{Activity}
use Rattle.ckrt_look_timeline.specs.declared.piece.Activity.TheVariants as activity

-- who waits for a mutex behind a condition waits for the mutex
abbrev pub for_reason : Reason → Activity
for_reason reason.Input = activity.Input
for_reason reason.Sleep = activity.Sleep
for_reason (reason.Join t) = activity.Join t
for_reason (reason.Lock m) = activity.Mutex m
for_reason (reason.Retake m r) = activity.Mutex m
for_reason (reason.Condition c m) = activity.Condition c
for_reason (reason.Barrier b) = activity.Barrier b
for_reason (reason.Read l) = activity.RwLock l
for_reason (reason.Write l) = activity.RwLock l

abbrev pub by_wait : Option Wait → Activity
by_wait None = activity.Ready
by_wait (Some w) = for_reason w.reason

-- by what its id stands for, and its wait
abbrev pub by_standing : Option (Option ℕ) → Option Wait → Activity
by_standing None w = activity.Absent
by_standing (Some (Some v)) w = activity.Ended
by_standing (Some None) w = by_wait w

abbrev pub aside : (t : ℕ) → State → Activity
aside t s = by_standing (standing (thread_of s t)) (find (is_of t) s.waits)

-- what thread t does at a step of the thread on hart h
abbrev pub activity_of : (h t : ℕ) → State → Activity
activity_of h t s =
    if holds t (option_flatten (slice_get s.harts h)) then activity.Running h else aside t s
