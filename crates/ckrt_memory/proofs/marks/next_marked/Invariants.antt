use Rattle.std.proofs.Common.{◌≡◌, ◌-◌, ◌<◌, ◌≤◌, ℕ, false, slice_index}
use Rattle.ckrt_memory.specs.Marks.{has_bit}
use Rattle.ckrt_memory.proofs.marks.next_marked.Given as goal

abbrev pub invariant-loop-page : goal.invariant-loop-page
invariant-loop-page l = record {
  started : l.from ≤ l.page;
  clean : (q : ℕ) → l.from ≤ q → q < l.page → has_bit l.area (slice_index l.marks q) ≡ false;
}

abbrev pub decreases-loop-page : goal.decreases-loop-page
decreases-loop-page l = l.end - l.page
