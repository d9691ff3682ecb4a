use Rattle.std.proofs.Common.{◌≡◌, ◌<◌, ℕ, true, false, length, get_or}
use Rattle.ckrt_gdb_history.proofs.pool.name_each.Given as goal

-- those before this one are named
abbrev pub invariant-loop-i : goal.invariant-loop-i
invariant-loop-i l = record {
  count : length l.named ≡ length l.fn.named;
  kept : (n : ℕ) → get_or l.fn.named n false ≡ true → get_or l.named n false ≡ true;
  named : (k : ℕ) → k < l.i → get_or l.named (get_or l.names k 0) false ≡ true;
}
