use Rattle.std.proofs.Common.{◌≡◌, drop}
use Rattle.ckrt_look_profile.specs.Functions.{functions_behind, functions_of}
use Rattle.ckrt_look_profile.proofs.functions.join_stacks.Given as goal

-- with the stacks ahead, these are all
abbrev pub invariant-loop-row : goal.invariant-loop-row
invariant-loop-row l = functions_behind l.functions.items (drop l.row-index l.rows) ≡ functions_of l.fn.rows
