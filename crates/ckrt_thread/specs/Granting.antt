-- Granting an object after a release: while the first wait of the object's queue is admissible it leaves the list and
-- gets what it waited for, with its result in x10; a thread that was cancelled goes to its next handler instead.
use Rattle.std.specs.Prelude.{ℕ, zero, suc, Bool, false, if◌then◌else◌, Option, Some, None, List, length}
use Rattle.std.specs.List.{filter}
use Rattle.ckrt_thread.specs.declared.records.Wait.{Wait}
use Rattle.ckrt_thread.specs.declared.records.Reason.{Reason}
use Rattle.ckrt_thread.specs.declared.records.Reason.TheVariants as reason
use Rattle.ckrt_thread.specs.declared.records.Object.{Object}
use Rattle.ckrt_thread.specs.Waits.{is_for, retake_code}
use Rattle.ckrt_thread.specs.Abi.{A0}
use Rattle.ckrt_thread.specs.State.{State, first_waiter, set_word, unwaited}
use Rattle.ckrt_thread.specs.Unwinding.{next_handler}

-- the result that a wait ends with when its thread gets what it waited for, if it ends with one
abbrev pub wait_result : Reason → Option ℕ
wait_result (reason.Retake a r) = retake_code r
wait_result _ = Some 0

-- a thread that does not wait gets a result, or else goes to its next handler
abbrev pub answered : Option ℕ → ℕ → State → State
answered (Some v) t s = set_word t A0 v s
answered None t s = next_handler t s

-- who waits gets what it waited for
abbrev pub obtained : Wait → State → State
obtained w s = answered (wait_result w.reason) w.thread (unwaited w.thread s)

-- the queue of an object: the part of the list that waits for it, in order
abbrev pub queue_of : Object → State → List Wait
queue_of o s = filter (is_for o) s.waits

-- which first wait of an object's queue is admissible, and what the object is when it was granted
pub record GrantRule (O : Type 0) : Type 0 where
  pub object : Object
  pub is_admissible : O → Wait → Bool
  pub granted : O → Wait → O

module _ {O : Type 0} (rule : GrantRule O) where
  abbrev pub grant : (O → State → O × State) → Option Wait → O → State → O × State
  grant more None o s = (o, s)
  grant more (Some w) o s =
      if rule.is_admissible o w then more (rule.granted o w) (obtained w s)
      else (o, s)

  -- at most n grants
  abbrev pub grant_up_to : ℕ → O → State → O × State
  grant_up_to zero o s = (o, s)
  grant_up_to (suc n) o s = grant (grant_up_to n) (first_waiter rule.object s) o s

  -- there are no more grants than waits
  abbrev pub grant_waiters : O → State → O × State
  grant_waiters o s = grant_up_to (length s.waits) o s

  abbrev pub is_first_admissible : Option Wait → O → Bool
  is_first_admissible None o = false
  is_first_admissible (Some w) o = rule.is_admissible o w

  -- whether the first thread that waits could be granted the object
  abbrev pub has_admissible_waiter : O × State → Bool
  has_admissible_waiter r = is_first_admissible (first_waiter rule.object r.1) r.0
