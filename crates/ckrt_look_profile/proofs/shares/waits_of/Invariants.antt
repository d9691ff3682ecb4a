use Rattle.std.proofs.Common.{◌≡◌, map, take}
use Rattle.ckrt_look_profile.specs.Shares.{wait_share}
use Rattle.ckrt_look_profile.proofs.shares.waits_of.Given as goal

-- those so far
abbrev pub invariant-loop-waited : goal.invariant-loop-waited
invariant-loop-waited l = l.shares.items ≡ map wait_share (take l.waited-index l.rows)
