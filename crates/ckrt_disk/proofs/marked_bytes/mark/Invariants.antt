use Rattle.std.proofs.Common.{◌⊎◌, ◌↔◌, ◌≤◌, ℕ, ◌<◌}
use Rattle.ckrt_disk.specs.Marked.{IsMarked}
use Rattle.ckrt_disk.proofs.marked_bytes.mark.Given as goal

abbrev pub invariant-loop-i : goal.invariant-loop-i
invariant-loop-i l = (k : ℕ) → (IsMarked l.table k ↔ (IsMarked l.fn.table k ⊎ ((l.at ≤ k) × (k < l.i))))
