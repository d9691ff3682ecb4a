-- Each row keeps the threads well-formed.
use Rattle.std.proofs.Common.{◌≡◌, ℕ, true, false, None, List, refl}
use Rattle.ckrt_thread.specs.declared.records.Reason.TheVariants as reason
use Rattle.ckrt_thread.specs.State.{State, IsWellFormed, is_live, is_waiting}
use Rattle.ckrt_thread.proofs.Changes.{well_formed_blocked}
use Rattle.ckrt_objects.specs.declared.address_map.Entry.{Entry}
use Rattle.ckrt_objects.proofs.Granting.{well_formed_woken}
use Rattle.ckrt_barrier.specs.declared.barrier.Barrier.{Barrier}
use Rattle.ckrt_barrier.specs.Rows.{init_row, destroy_row, wait_row}
use Rattle.ckrt_barrier.proofs.Kept.{kept_init, kept_destroy, kept_wait}

pub threads_init : (b n : ℕ) (s : State) (bs : List (Entry Barrier)) → IsWellFormed s → IsWellFormed (init_row b n s bs).threads
threads_init b n s bs k = kept_init IsWellFormed b n s bs k

pub threads_destroy : (b : ℕ) (s : State) (bs : List (Entry Barrier)) → IsWellFormed s → IsWellFormed (destroy_row b s bs).threads
threads_destroy b s bs k = kept_destroy IsWellFormed b s bs k

pub threads_wait : (t b : ℕ) (s : State) (bs : List (Entry Barrier)) → IsWellFormed s → is_live s t ≡ true → is_waiting s t ≡ false → IsWellFormed (wait_row t b s bs).threads
threads_wait t b s bs k l n = kept_wait IsWellFormed well_formed_woken t b s bs (well_formed_blocked s t (reason.Barrier b) None k l n refl) k
