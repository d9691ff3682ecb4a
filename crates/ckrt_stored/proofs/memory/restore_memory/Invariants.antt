use Rattle.std.proofs.Common.{◌≡◌, ◌⊎◌, ◌*◌, ◌-◌, ◌≤◌, ◌<◌, ℕ, true, false, length}
use Rattle.ckrt_memory.specs.Marks.{COPY, is_dirty}
use Rattle.ckrt_memory.specs.Pages.{page_of}
use Rattle.ckrt_stored.proofs.memory.restore_memory.Given as goal

-- pages before this one are the same, and so are those that aren't marked
abbrev pub invariant-loop-page : goal.invariant-loop-page
invariant-loop-page l = record {
  started : 1 ≤ l.page;
  inside : l.page ≤ l.pages;
  dirty : l.page < l.pages → is_dirty COPY l.page l.memory ≡ true;
  size : length l.memory.bytes ≡ length l.kept.bytes;
  same : (p : ℕ) → 1 ≤ p → p < l.pages → (p < l.page) ⊎ (is_dirty COPY p l.memory ≡ false) → page_of l.memory.bytes p ≡ page_of l.kept.bytes p;
  room : l.memory.room ≡ l.fn.memory.room;
}

abbrev pub decreases-loop-page : goal.decreases-loop-page
decreases-loop-page l = l.pages - l.page
