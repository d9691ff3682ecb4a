use Rattle.std.proofs.Common.{◌≡◌, ◌-◌, ◌<◌, ◌≤◌, ℕ, length, get_or}
use Rattle.ckrt_memory.specs.Pages.{page_of}
use Rattle.ckrt_gdb_history.specs.Pool.{page_in}
use Rattle.ckrt_gdb_history.proofs.pool.PagePool.restore.Given as goal

-- the pages before this one are those in their slots
abbrev pub invariant-loop-page : goal.invariant-loop-page
invariant-loop-page l = record {
  size : length l.memory.bytes ≡ length l.fn.memory.bytes;
  same : (q : ℕ) → 1 ≤ q → q < l.page → page_of l.memory.bytes q ≡ page_in l.self (get_or l.names (q - 1) 0);
}
