-- A table of threads that loses them one by one.
use Rattle.std.specs.Prelude.{◌≡◌, ℕ, [], None, slice_set}
use Rattle.ckrt_thread.specs.State.{State}

-- the number stands for nothing, and keys and number of harts are the same; nobody waits
pub record HasLost (id : ℕ) (old new : State) : Type 0 where
  pub threads : new.threads ≡ slice_set old.threads id None
  pub waits : new.waits ≡ []
  pub hart_count : new.hart_count ≡ old.hart_count
  pub keys : new.keys ≡ old.keys
