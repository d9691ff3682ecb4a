use Rattle.std.proofs.Common.{◌≡◌, ◌++◌, take}
use Rattle.ckrt_inspect.specs.Listing.{hart_lines_from}
use Rattle.ckrt_inspect.proofs.threads.push_harts.Given as goal

abbrev pub invariant-loop-hart : goal.invariant-loop-hart
invariant-loop-hart l = l.out.items ≡ l.fn.out.items ++ hart_lines_from 0 (take l.hart l.threads.harts)
