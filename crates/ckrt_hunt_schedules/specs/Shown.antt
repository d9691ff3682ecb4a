-- Which rows of a table have lines (this project's choice): of more than three outputs of `exit 0` those of the three commonest.
use Rattle.std.specs.Prelude.{ℕ, zero, suc, ◌==◌, ◌||◌, ◌&&◌, nat_lt, Bool, true, false, if◌then◌else◌, List, length, slice_get, Option, Some, None}
use Rattle.ckrt_hunt_schedules.specs.Kinds.{kind_of}
use Rattle.ckrt_hunt_schedules.specs.Tallies.{plus}
use Rattle.ckrt_hunt_schedules.specs.declared.kind.Kind.{Kind}
use Rattle.ckrt_hunt_schedules.specs.declared.kind.Kind.TheVariants as kind
use Rattle.ckrt_hunt_schedules.specs.declared.row.Row.{Row}
use Rattle.ckrt_hunt_schedules.specs.declared.shown.Measure.{Measure}
use Rattle.ckrt_hunt_schedules.specs.declared.shown.Measure.TheVariants as measure

abbrev pub is_exit_zero : Kind → Bool
is_exit_zero kind.Fault = false
is_exit_zero kind.Deadlock = false
is_exit_zero kind.OtherStatus = false
is_exit_zero kind.NoEnd = false
is_exit_zero kind.WaitsForInput = false
is_exit_zero kind.ExitZero = true

-- more runs came to it than to another one, or as many, and the first of them before
abbrev pub is_commoner : Row → (count first : ℕ) → Bool
is_commoner r count first = nat_lt count r.count || (r.count == count && nat_lt r.first first)

-- what a row of `exit 0` counts: itself, its runs, or itself where it is commoner
abbrev pub amount_of : Measure → Row → ℕ
amount_of measure.Outputs r = 1
amount_of measure.Runs r = r.count
amount_of (measure.Commoner count first) r = if is_commoner r count first then 1 else 0

abbrev pub amount_at : Measure → Option Row → ℕ
amount_at m None = 0
amount_at m (Some r) = if is_exit_zero (kind_of r.told.outcome) then amount_of m r else 0

-- what the first n rows count together, as far as 64 bits do
unfoldable pub total_of : Measure → List Row → (n : ℕ) → ℕ
total_of m rows zero = 0
total_of m rows (suc n) = plus (total_of m rows n) (amount_at m (slice_get rows n))

-- more outputs of `exit 0` than have lines
abbrev pub has_many : (all_rows : Bool) → List Row → Bool
has_many true rows = false
has_many false rows = nat_lt 3 (total_of measure.Outputs rows (length rows))

-- fewer than three outputs are commoner
abbrev pub is_common : List Row → Row → Bool
is_common rows r = nat_lt (total_of (measure.Commoner r.count r.first) rows (length rows)) 3

-- the row has lines
abbrev pub is_shown : (all_rows : Bool) → List Row → Row → Bool
is_shown true rows r = true
is_shown false rows r = if is_exit_zero (kind_of r.told.outcome) then is_common rows r else true

abbrev pub is_shown_at : (all_rows : Bool) → List Row → Option Row → Bool
is_shown_at all_rows rows None = false
is_shown_at all_rows rows (Some r) = is_shown all_rows rows r
