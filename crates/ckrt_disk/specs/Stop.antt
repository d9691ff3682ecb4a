-- Laws of the number at which a disk is to stop.
use Rattle.std.specs.Prelude.{◌≡◌, ◌↔◌, ◌≤◌, ◌<◌, ◌-◌, ◌^◌, ℕ, min, None, Some}
use native.Mathlib.Omega.{arith}
use Rattle.ckrt_disk.specs.Disk.{IsStopped}

pub named_none : (s : ℕ) → None ≡ Some s → ⊥
named_none s is = cc

pub stopped_law : (at_call calls count failures : ℕ) → at_call < 2 ^ 64
    → calls ≡ min count (2 ^ 64 - 1) → (0 < failures → (0 < at_call) × (at_call ≤ calls))
    → (0 < at_call → at_call ≤ calls → 0 < failures)
    → (s : ℕ) → Some at_call ≡ Some s → ((0 < failures) ↔ IsStopped s count)
stopped_law at_call calls count failures small counted failed stopped s is =
    grind (arith, small, counted, failed, stopped, is)
