use Rattle.std.proofs.Common.{◌≡◌, ◌-◌, ◌<◌, ◌≤◌, ℕ, length, get_or}
use Rattle.ckrt_memory.specs.Pages.{page_of}
use Rattle.ckrt_gdb_history.specs.Pool.{AreNamed, IsPool, Keeps, page_in}
use Rattle.ckrt_gdb_history.proofs.pool.PagePool.gather.Given as goal

-- the pages before this one stand in their slots
abbrev pub invariant-loop-page : goal.invariant-loop-page
invariant-loop-page l = record {
  pool : IsPool l.self;
  keeps : Keeps l.fn.self l.self;
  named : AreNamed l.self l.names;
  count : length l.names ≡ length l.fn.names;
  same : (q : ℕ) → 1 ≤ q → q < l.page → page_in l.self (get_or l.names (q - 1) 0) ≡ page_of l.memory.bytes q;
}
