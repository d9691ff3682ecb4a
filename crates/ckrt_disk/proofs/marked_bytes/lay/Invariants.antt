use Rattle.std.proofs.Common.{◌≡◌, ℕ, ◌<◌, ◌≤◌, ◌%◌, length, get_or}
use Rattle.ckrt_disk.specs.Marked.{IsMarked, HasBelow}
use Rattle.ckrt_disk.proofs.marked_bytes.lay.Given as goal

abbrev pub invariant-loop-i : goal.invariant-loop-i
invariant-loop-i l = record {
  size : length l.bytes ≡ length l.fn.bytes;
  count : HasBelow (IsMarked l.table) l.i l.laid;
  bound : l.laid ≤ l.i;
  kept : (j : ℕ) → ¬ IsMarked l.table j → get_or l.bytes j 0 ≡ get_or l.fn.bytes j 0;
  done : (j : ℕ) → j < l.i → IsMarked l.table j → (k : ℕ) × HasBelow (IsMarked l.table) j k × (get_or l.bytes j 0 ≡ get_or l.fill (k % length l.fill) 0);
}
