-- Each row keeps the threads well-formed.
use Rattle.std.proofs.Common.{◌≡◌, ℕ, true, false, None, List, refl}
use Rattle.ckrt_thread.specs.declared.records.Reason.TheVariants as reason
use Rattle.ckrt_thread.specs.State.{State, IsWellFormed, is_live, is_waiting}
use Rattle.ckrt_thread.proofs.Changes.{well_formed_blocked}
use Rattle.ckrt_objects.specs.declared.address_map.Entry.{Entry}
use Rattle.ckrt_objects.proofs.Granting.{well_formed_granted}
use Rattle.ckrt_rwlock.specs.declared.records.RwLock.{RwLock}
use Rattle.ckrt_rwlock.specs.Rows.{rwlock_rule, rdlock_row, tryrdlock_row, wrlock_row, trywrlock_row, unlock_row}
use Rattle.ckrt_rwlock.proofs.Kept.{kept_rdlock, kept_tryrdlock, kept_wrlock, kept_trywrlock, kept_unlock}

module _ (t a : ℕ) (s : State) (ls : List (Entry RwLock)) (k : IsWellFormed s) where
  module _ (l : is_live s t ≡ true) (n : is_waiting s t ≡ false) where
    pub threads_rdlock : IsWellFormed (rdlock_row t a s ls).threads
    threads_rdlock = kept_rdlock IsWellFormed t a s ls (well_formed_blocked s t (reason.Read a) None k l n refl) k

    pub threads_tryrdlock : IsWellFormed (tryrdlock_row t a s ls).threads
    threads_tryrdlock = kept_tryrdlock IsWellFormed t a s ls (well_formed_blocked s t (reason.Read a) None k l n refl) k

    pub threads_wrlock : IsWellFormed (wrlock_row t a s ls).threads
    threads_wrlock = kept_wrlock IsWellFormed t a s ls (well_formed_blocked s t (reason.Write a) None k l n refl) k

    pub threads_trywrlock : IsWellFormed (trywrlock_row t a s ls).threads
    threads_trywrlock = kept_trywrlock IsWellFormed t a s ls (well_formed_blocked s t (reason.Write a) None k l n refl) k

  pub threads_unlock : IsWellFormed (unlock_row t a s ls).threads
  threads_unlock = kept_unlock IsWellFormed t a s ls (λ l. well_formed_granted (rwlock_rule a) l s k) k
