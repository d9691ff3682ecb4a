-- What holds of the threads before a row holds after it, where what the row is made of keeps it.
use Rattle.std.proofs.Common.{ℕ, ◌+◌, ◌==◌, not, List, length, Option, Some, None}
use Rattle.ckrt_thread.specs.declared.records.Reason.TheVariants as reason
use Rattle.ckrt_thread.specs.State.{State, blocked, woken}
use Rattle.ckrt_thread.proofs.Waking.{kept_all_woken}
use Rattle.ckrt_objects.specs.declared.address_map.Entry.{Entry}
use Rattle.ckrt_objects.specs.AddressMap.{has_entry, lookup}
use Rattle.ckrt_objects.proofs.Waits.{either}
use Rattle.ckrt_barrier.specs.declared.barrier.Barrier.{Barrier}
use Rattle.ckrt_barrier.specs.Rows.{After, waiters, has_waiters, is_full, init_row, destroy_row, wait_at, wait_row}

module _ (P : State → Type 0) where
  abbrev Holds : After → Type 0
  Holds r = P r.threads

  pub kept_init : (b n : ℕ) (s : State) (bs : List (Entry Barrier)) → P s → Holds (init_row b n s bs)
  kept_init b n s bs h =
      either Holds (has_waiters b s) _ _ (λ _. h) (λ _. either Holds (n == 0) _ _ (λ _. h) (λ _. either Holds (is_full b bs) _ _ (λ _. h) (λ _. h)))

  pub kept_destroy : (b : ℕ) (s : State) (bs : List (Entry Barrier)) → P s → Holds (destroy_row b s bs)
  kept_destroy b s bs h = either Holds (has_waiters b s) _ _ (λ _. h) (λ _. either Holds (not (has_entry b bs)) _ _ (λ _. h) (λ _. h))

  module _ (ends : (t v : ℕ) (z : State) → P z → P (woken t v z)) where
    kept_wait_at : (o : Option Barrier) (t b : ℕ) (s : State) (bs : List (Entry Barrier)) → P (blocked t (reason.Barrier b) None s) → P s → Holds (wait_at o t b s bs)
    kept_wait_at None t b s bs w h = h
    kept_wait_at (Some r) t b s bs w h = either Holds (length (waiters b s) + 1 == r.count) _ _ (λ _. kept_all_woken P ends 0 (waiters b s) s h) (λ _. w)

    pub kept_wait : (t b : ℕ) (s : State) (bs : List (Entry Barrier)) → P (blocked t (reason.Barrier b) None s) → P s → Holds (wait_row t b s bs)
    kept_wait t b s bs w h = kept_wait_at (lookup b bs) t b s bs w h
