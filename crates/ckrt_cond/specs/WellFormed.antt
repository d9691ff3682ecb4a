-- Which waits at conditions there may be.
use Rattle.std.specs.Prelude.{◌≡◌, ℕ, ◌==◌, Bool, true, false, not, ◌&&◌, List}
use Rattle.std.specs.List.{list_any}
use Rattle.ckrt_thread.specs.declared.records.Wait.{Wait}
use Rattle.ckrt_thread.specs.declared.records.Reason.{Reason}
use Rattle.ckrt_thread.specs.declared.records.Reason.TheVariants as reason
use Rattle.ckrt_thread.specs.Waits.{is_of}
use Rattle.ckrt_thread.specs.State.{State, is_live, is_waiting}
use Rattle.ckrt_objects.specs.declared.address_map.Entry.{Entry}
use Rattle.ckrt_mutex.specs.declared.records.Mutex.{Mutex}
use Rattle.ckrt_mutex.specs.Mutex.{mutex_at}
use Rattle.ckrt_mutex.specs.Rows.{is_full}
use Rattle.ckrt_mutex.specs.WellFormed.{IsWellFormedWith, can_retake}
use Rattle.ckrt_cond.specs.Rows.{is_with_other, has_other_mutex}

-- whether who waits for this reason is at the condition c, with the mutex a
abbrev pub is_with : ℕ → ℕ → Reason → Bool
is_with c a (reason.Condition d b) = c == d && a == b
is_with c a _ = false

-- some thread waits at the condition c with the mutex a
abbrev pub is_waited_with : ℕ → ℕ → State → Bool
is_waited_with c a s = list_any (λ w. is_with c a w.reason) s.waits

pub record IsWellFormed (s : State) : Type 0 where
  -- the waiters of one condition name one mutex
  pub one_mutex : (c a b : ℕ) → is_waited_with c a s ≡ true → is_waited_with c b s ≡ true → a ≡ b

-- THE SAME AS A TEST of each wait.

abbrev pub is_alone_with : List Wait → Reason → Bool
is_alone_with ws (reason.Condition c a) = not (list_any (λ w. is_with_other c a w.reason) ws)
is_alone_with ws _ = true

-- none of the waits is at this wait's condition with another mutex
abbrev pub names_the_one_mutex : List Wait → Wait → Bool
names_the_one_mutex ws w = is_alone_with ws w.reason

-- WHO MAY RESUME

abbrev pub is_at_condition_with : ℕ → Reason → Bool
is_at_condition_with a (reason.Condition c b) = a == b
is_at_condition_with a _ = false

-- the thread t waits at some condition with the mutex a
abbrev pub may_resume : ℕ → ℕ → State → Bool
may_resume t a s = list_any (λ w. is_of t w && is_at_condition_with a w.reason) s.waits

-- A thread that has released one level of the mutex a can begin to wait at the condition c with it, or retake it.
pub record HasReleased (t c a : ℕ) (s : State) (ms : List (Entry Mutex)) : Type 0 where
  pub live : is_live s t ≡ true
  pub free : is_waiting s t ≡ false
  pub room : is_full a s ms ≡ false
  pub count : can_retake t (mutex_at a ms) ≡ true
  pub other : has_other_mutex c a s ≡ false
  pub mutexes : IsWellFormedWith s ms
  pub conditions : IsWellFormed s
