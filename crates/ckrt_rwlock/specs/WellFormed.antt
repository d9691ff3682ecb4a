-- Which tables of threads and read-write locks are well-formed together.
use Rattle.std.specs.Prelude.{◌≡◌, ◌≤◌, ℕ, Bool, true, false, ◌&&◌, not, List, Option, Some, None}
use Rattle.std.specs.List.{list_any}
use Rattle.ckrt_thread.specs.declared.records.Wait.{Wait}
use Rattle.ckrt_thread.specs.declared.records.Object.TheVariants as object
use Rattle.ckrt_thread.specs.Waits.{is_of, is_for}
use Rattle.ckrt_thread.specs.State.{State}
use Rattle.ckrt_thread.specs.Granting.{has_admissible_waiter}
use Rattle.ckrt_objects.specs.declared.address_map.Entry.{Entry}
use Rattle.ckrt_rwlock.specs.declared.records.RwLock.{RwLock}
use Rattle.ckrt_rwlock.specs.RwLock.{is_holder, lock_at, IsTable}
use Rattle.ckrt_rwlock.specs.Rows.{named, rwlock_rule, used_count}

-- the thread waits for the lock at the address
abbrev pub is_waiting_for : ℕ → ℕ → State → Bool
is_waiting_for a t s = list_any (λ w. is_of t w && is_for (object.RwLock a) w) s.waits

pub record IsWellFormedWith (s : State) (ls : List (Entry RwLock)) : Type 0 where
  pub table : IsTable ls
  pub at_most_64_in_use : used_count s ls ≤ 64
  -- who waits for a lock does not hold it
  pub no_waiter_holds : (a t : ℕ) → is_waiting_for a t s ≡ true → is_holder t (lock_at a ls) ≡ false
  -- a first reader faces a writer, and a first writer a holder
  pub no_first_waiter_is_admissible : (a : ℕ)
      → has_admissible_waiter (rwlock_rule a) (lock_at a ls, s) ≡ false

-- THE SAME AS A TEST of the table's size and of each wait: at other addresses nobody waits.

-- a thread that waits for the lock does not hold it, and the first thread that waits for it is not admissible
abbrev pub may_wait_at : State → List (Entry RwLock) → ℕ → Option ℕ → Bool
may_wait_at s ls t None = true
may_wait_at s ls t (Some a) =
    not (is_holder t (lock_at a ls))
    && not (has_admissible_waiter (rwlock_rule a) (lock_at a ls, s))

abbrev pub may_wait : State → List (Entry RwLock) → Wait → Bool
may_wait s ls w = may_wait_at s ls w.thread (named w)
