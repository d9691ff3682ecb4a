use Rattle.std.proofs.Common.{◌≡◌, map, take}
use Rattle.ckrt_look_profile.specs.Shares.{function_share}
use Rattle.ckrt_look_profile.proofs.shares.function_shares.Given as goal

-- those so far
abbrev pub invariant-loop-function : goal.invariant-loop-function
invariant-loop-function l = l.shares.items ≡ map function_share (take l.function-index l.functions)
