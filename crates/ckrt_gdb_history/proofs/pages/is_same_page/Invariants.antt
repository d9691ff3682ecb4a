use Rattle.std.proofs.Common.{◌≡◌, ◌<◌, ℕ, get_or}
use Rattle.std.specs.Prelude.{IsTrue}
use Rattle.ckrt_gdb_history.proofs.pages.is_same_page.Given as goal

-- the bytes before this one are the same
abbrev pub invariant-loop-i : goal.invariant-loop-i
invariant-loop-i l = IsTrue l.same → (k : ℕ) → k < l.i → get_or l.one k 0 ≡ get_or l.other k 0
