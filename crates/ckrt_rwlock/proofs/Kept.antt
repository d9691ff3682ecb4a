-- What holds of the threads before a row holds after it, where what the row is made of keeps it.
use Rattle.std.proofs.Common.{ℕ, nat_le, ◌||◌, not, None, List}
use Rattle.ckrt_thread.specs.declared.records.Reason.TheVariants as reason
use Rattle.ckrt_thread.specs.State.{State, blocked}
use Rattle.ckrt_thread.specs.Granting.{grant_waiters}
use Rattle.ckrt_objects.specs.declared.address_map.Entry.{Entry}
use Rattle.ckrt_objects.proofs.Waits.{either}
use Rattle.ckrt_rwlock.specs.declared.records.RwLock.{RwLock}
use Rattle.ckrt_rwlock.specs.RwLock.{read_count, is_writer, is_reader, is_holder, is_written, is_held, given_up, lock_at}
use Rattle.ckrt_rwlock.specs.Rows.{After, is_full, is_awaited, is_0_or_again, or_busy, rwlock_rule, reading_again, rdlock_of, rdlock_row, tryrdlock_row, wrlock_of, wrlock_row, trywrlock_row, unlock_row}

module _ (P : State → Type 0) (t a : ℕ) (s : State) (ls : List (Entry RwLock)) where
  abbrev Holds : After → Type 0
  Holds r = P r.threads

  kept_again : (l : RwLock) → P s → Holds (reading_again l t a s ls)
  kept_again l h = either Holds (nat_le 65535 (read_count t l)) _ _ (λ _. h) (λ _. h)

  kept_rdlock_of : (l : RwLock) → P (blocked t (reason.Read a) None s) → P s → Holds (rdlock_of l t a s ls)
  kept_rdlock_of l w h =
      either Holds (is_writer t l) _ _ (λ _. h) (λ _.
      either Holds (is_reader t l) _ _ (λ _. kept_again l h) (λ _.
      either Holds (is_full a s ls) _ _ (λ _. h) (λ _.
      either Holds (is_written l || is_awaited a s) _ _ (λ _. w) (λ _. h))))

  pub kept_rdlock : P (blocked t (reason.Read a) None s) → P s → Holds (rdlock_row t a s ls)
  kept_rdlock w h = kept_rdlock_of (lock_at a ls) w h

  kept_or_busy : (r : After) → Holds r → P s → Holds (or_busy r s ls)
  kept_or_busy r k h = either Holds (is_0_or_again r.result) _ _ (λ _. k) (λ _. h)

  pub kept_tryrdlock : P (blocked t (reason.Read a) None s) → P s → Holds (tryrdlock_row t a s ls)
  kept_tryrdlock w h = kept_or_busy (rdlock_row t a s ls) (kept_rdlock w h) h

  kept_wrlock_of : (l : RwLock) → P (blocked t (reason.Write a) None s) → P s → Holds (wrlock_of l t a s ls)
  kept_wrlock_of l w h =
      either Holds (is_holder t l) _ _ (λ _. h) (λ _. either Holds (is_full a s ls) _ _ (λ _. h) (λ _. either Holds (is_held l) _ _ (λ _. w) (λ _. h)))

  pub kept_wrlock : P (blocked t (reason.Write a) None s) → P s → Holds (wrlock_row t a s ls)
  kept_wrlock w h = kept_wrlock_of (lock_at a ls) w h

  pub kept_trywrlock : P (blocked t (reason.Write a) None s) → P s → Holds (trywrlock_row t a s ls)
  kept_trywrlock w h = kept_or_busy (wrlock_row t a s ls) (kept_wrlock w h) h

  -- the lock's waiters are granted it
  pub kept_unlock : ((l : RwLock) → P (grant_waiters (rwlock_rule a) l s).1) → P s → Holds (unlock_row t a s ls)
  kept_unlock grants h = either Holds (not (is_holder t (lock_at a ls))) _ _ (λ _. h) (λ _. grants (given_up t (lock_at a ls)))
