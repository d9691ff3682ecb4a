-- A release hands the mutex over to the thread that waits longest, and to no other.
use Rattle.std.proofs.Common.{◌≡◌, ℕ, Some, None, refl, ap, sym, ◌∙◌}
use Rattle.std.specs.Prelude.{option_map}
use Rattle.ckrt_thread.specs.declared.records.Wait.{Wait}
use Rattle.ckrt_thread.specs.declared.records.Waiter.{Waiter}
use Rattle.ckrt_thread.specs.declared.records.Object.TheVariants as object
use Rattle.ckrt_thread.proofs.Waking.{waiter_is, taken_obtained, none_unwaited, no_first}
use Rattle.ckrt_thread.specs.State.{State, first_waiter, first_unwaited, of_wait, of_waiter}
use Rattle.ckrt_thread.specs.Granting.{answered, wait_result, obtained, grant_waiters}
use Rattle.ckrt_objects.proofs.Granting as granting
use Rattle.ckrt_mutex.specs.declared.records.Kind.{Kind}
use Rattle.ckrt_mutex.specs.Mutex.{free, owned}
use Rattle.ckrt_mutex.specs.Rows.{mutex_rule}

pub grants_none : (a : ℕ) (k : Kind) (s : State) → first_waiter (object.Mutex a) s ≡ None → grant_waiters (mutex_rule a) (free k) s ≡ (free k, s)
grants_none a k s e = granting.grants_none (mutex_rule a) (free k) s e

-- nobody is granted a mutex that is owned
pub grants_first : (a : ℕ) (k : Kind) (s : State) (w : Wait) → first_waiter (object.Mutex a) s ≡ Some w → grant_waiters (mutex_rule a) (free k) s ≡ (owned k w.thread 1, obtained w s)
grants_first a k s w e = granting.grants_first (mutex_rule a) (free k) s w e refl (λ v. refl)

-- the same of who was taken out of the list
pub grants_nobody : (a : ℕ) (k : Kind) (s : State) → None ≡ option_map of_wait (first_waiter (object.Mutex a) s) → grant_waiters (mutex_rule a) (free k) s ≡ (free k, first_unwaited (object.Mutex a) s)
grants_nobody a k s e =
    let none = no_first (first_waiter (object.Mutex a) s) e in
    granting.grants_none (mutex_rule a) (free k) s none ∙ ap (λ z. (free k, z)) (sym (none_unwaited (object.Mutex a) s none))

pub grants_waiter : (a : ℕ) (k : Kind) (s : State) (x : Waiter) → Some (of_waiter x) ≡ option_map of_wait (first_waiter (object.Mutex a) s)
    → grant_waiters (mutex_rule a) (free k) s ≡ (owned k x.thread 1, answered (wait_result x.reason) x.thread (first_unwaited (object.Mutex a) s))
grants_waiter a k s x e =
    let i = waiter_is (first_waiter (object.Mutex a) s) x e in
    granting.grants_first (mutex_rule a) (free k) s i.wait i.first refl (λ v. refl)
    ∙ (ap (λ t. (owned k t 1, obtained i.wait s)) (sym (ap (λ p. p.0) i.who)) ∙ ap (λ z. (owned k x.thread 1, z)) (sym (taken_obtained (object.Mutex a) x s i)))
