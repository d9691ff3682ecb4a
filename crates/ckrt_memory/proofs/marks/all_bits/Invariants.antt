use Rattle.std.proofs.Common.{◌≡◌, ◌<◌, ℕ, false, slice_index}
use Rattle.ckrt_memory.specs.Marks.{has_bit}
use Rattle.ckrt_memory.proofs.marks.all_bits.Given as goal

abbrev pub invariant-loop-i : goal.invariant-loop-i
invariant-loop-i l = record {
  seen : (area p : ℕ) → p < l.i → has_bit area l.bits ≡ false → has_bit area (slice_index l.marks p) ≡ false;
}
