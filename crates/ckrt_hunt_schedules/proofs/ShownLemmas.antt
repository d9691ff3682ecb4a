-- What rows count together, one row after another.
use Rattle.std.proofs.Common.{◌≡◌, ℕ, suc, List, Some, refl}
use Rattle.std.specs.Prelude.{slice_get}
use Rattle.ckrt_hunt_schedules.specs.Shown.{amount_at, total_of}
use Rattle.ckrt_hunt_schedules.specs.Tallies.{plus}
use Rattle.ckrt_hunt_schedules.specs.declared.row.Row.{Row}
use Rattle.ckrt_hunt_schedules.specs.declared.shown.Measure.{Measure}

pub no_total : (m : Measure) (rows : List Row) → total_of m rows 0 ≡ 0
unfolding total_of
no_total m rows = refl

pub total_more : (m : Measure) (rows : List Row) (n k : ℕ) (r : Row) → k ≡ suc n → slice_get rows n ≡ Some r → total_of m rows k ≡ plus (total_of m rows n) (amount_at m (Some r))
unfolding total_of
total_more m rows n k r e is = rw (e, is) refl
