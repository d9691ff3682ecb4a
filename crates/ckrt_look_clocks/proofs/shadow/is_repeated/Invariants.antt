use Rattle.std.proofs.Common.{◌≡◌, false, get_or, take, None}
use Rattle.std.specs.List.{list_any}
use Rattle.ckrt_look_clocks.specs.Detection.{is_same}
use Rattle.ckrt_look_clocks.proofs.shadow.is_repeated.Given as goal

-- none before has the same
abbrev pub invariant-loop-earlier : goal.invariant-loop-earlier
invariant-loop-earlier l = list_any (is_same (get_or l.stores l.byte None)) (take l.earlier l.stores) ≡ false
