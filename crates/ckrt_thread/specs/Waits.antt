-- The list of waits, in order of the start of waiting.
use Rattle.std.specs.Prelude.{ℕ, ◌==◌, ◌^◌, nat_lt, not, Bool, true, false, ◌&&◌, if◌then◌else◌, Option, Some, None, is_none, List, [], ◌∷◌}
use Rattle.ckrt_thread.specs.Errors.{ETIMEDOUT}
use Rattle.ckrt_thread.specs.declared.records.Wait.{Wait}
use Rattle.ckrt_thread.specs.declared.records.Reason.{Reason}
use Rattle.ckrt_thread.specs.declared.records.Reason.TheVariants as reason
use Rattle.ckrt_thread.specs.declared.records.RetakeResult.{RetakeResult}
use Rattle.ckrt_thread.specs.declared.records.RetakeResult.TheVariants as retake
use Rattle.ckrt_thread.specs.declared.records.Object.{Object}
use Rattle.ckrt_thread.specs.declared.records.Object.TheVariants as object

-- whether who waits for this reason waits for the object
abbrev pub is_reason_for : Object → Reason → Bool
is_reason_for object.Input reason.Input = true
is_reason_for (object.End id) (reason.Join target) = id == target
is_reason_for (object.Mutex a) (reason.Lock m) = a == m
is_reason_for (object.Mutex a) (reason.Retake m r) = a == m
is_reason_for (object.Condition a) (reason.Condition c m) = a == c
is_reason_for (object.Barrier a) (reason.Barrier b) = a == b
is_reason_for (object.RwLock a) (reason.Read l) = a == l
is_reason_for (object.RwLock a) (reason.Write l) = a == l
is_reason_for _ _ = false

abbrev pub is_for : Object → Wait → Bool
is_for o w = is_reason_for o w.reason

abbrev pub is_of : ℕ → Wait → Bool
is_of t w = t == w.thread

-- the list when the thread's wait has been taken out
abbrev pub without : ℕ → List Wait → List Wait
without t [] = []
without t (w ∷ ws) = if is_of t w then ws else w ∷ without t ws

-- the result of a condition wait (POSIX.1-2017, pthread_cond_timedwait); a cancelled waiter gets none, and goes to its
-- next handler
abbrev pub retake_code : RetakeResult → Option ℕ
retake_code retake.Done = Some 0
retake_code retake.TimedOut = Some ETIMEDOUT
retake_code retake.Unwind = None

-- whether who waits for this reason is to unwind when it has its mutex
abbrev pub is_to_unwind : Reason → Bool
is_to_unwind (reason.Retake m r) = is_none (retake_code r)
is_to_unwind _ = false

-- whether the thread waits to retake a mutex, and to unwind then
abbrev pub is_unwind_of : ℕ → Wait → Bool
is_unwind_of t w = is_of t w && is_to_unwind w.reason

-- every moment of the clock is below this (this project's choice)
abbrev pub MOMENT_END : ℕ
MOMENT_END = 2 ^ 63

abbrev pub is_moment : ℕ → Bool
is_moment d = nat_lt d MOMENT_END

abbrev pub is_moment_or_none : Option ℕ → Bool
is_moment_or_none None = true
is_moment_or_none (Some d) = is_moment d

-- timed waits for a mutex and for a condition may have a deadline, sleeps have one, and no other wait has
abbrev pub is_deadline_of : Reason → Option ℕ → Bool
is_deadline_of reason.Sleep None = false
is_deadline_of reason.Sleep (Some d) = is_moment d
is_deadline_of (reason.Lock a) d = is_moment_or_none d
is_deadline_of (reason.Condition c m) d = is_moment_or_none d
is_deadline_of _ None = true
is_deadline_of _ (Some d) = false

abbrev pub has_proper_deadline : Wait → Bool
has_proper_deadline w = is_deadline_of w.reason w.deadline

-- nobody joins itself
abbrev pub joins_another : Wait → Bool
joins_another w = not (is_for (object.End w.thread) w)
