-- What a call counts on.
use Rattle.std.specs.Prelude.{◌≡◌, ℕ, true, false}
use Rattle.ckrt_thread.specs.State as thread
use Rattle.ckrt_calls.specs.declared.table.Status.TheVariants.{Running}
use Rattle.ckrt_calls.specs.declared.table.Tables.{Tables}
use Rattle.ckrt_calls.specs.WellFormed.{IsWellFormed}

-- the thread t is on a hart, and the program runs
pub record MayCall (t : ℕ) (s : Tables) : Type 0 where
  -- it has not ended
  pub live : thread.is_live s.threads t ≡ true
  -- it does not wait
  pub free : thread.is_waiting s.threads t ≡ false
  pub running : s.status ≡ Running
  pub well_formed : IsWellFormed s
