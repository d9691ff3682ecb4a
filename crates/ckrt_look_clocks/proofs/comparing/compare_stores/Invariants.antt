use Rattle.std.proofs.Common.{◌≡◌}
use Rattle.ckrt_look_clocks.specs.Detection.{compared_stores, found_in}
use Rattle.ckrt_look_clocks.proofs.comparing.compare_stores.Given as goal

-- with those of so many bytes
abbrev pub invariant-loop-byte : goal.invariant-loop-byte
invariant-loop-byte l =
    found_in l.found ≡ compared_stores l.byte l.block l.clocks l.access l.stores (found_in l.fn.found)
