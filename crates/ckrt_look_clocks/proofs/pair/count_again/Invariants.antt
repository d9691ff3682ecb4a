use Rattle.std.proofs.Common.{◌≡◌, false, take}
use Rattle.std.specs.List.{list_any}
use Rattle.ckrt_look_clocks.specs.Detection.{is_at}
use Rattle.ckrt_look_clocks.proofs.pair.count_again.Given as goal

-- none before has these places, and all are as they were
abbrev pub invariant-loop-place : goal.invariant-loop-place
invariant-loop-place l =
    (l.pairs ≡ l.fn.pairs) × (list_any (is_at l.first l.second) (take l.place l.fn.pairs.items) ≡ false)
