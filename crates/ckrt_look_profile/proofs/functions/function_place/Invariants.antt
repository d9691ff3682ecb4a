use Rattle.std.proofs.Common.{◌≡◌, ◌+◌, drop}
use Rattle.ckrt_look_profile.specs.Functions.{function_place}
use Rattle.ckrt_look_profile.proofs.functions.function_place.Given as goal

-- none of those before is the one that is looked for
abbrev pub invariant-loop-place : goal.invariant-loop-place
invariant-loop-place l = function_place l.entry l.functions ≡ l.place + function_place l.entry (drop l.place l.functions)
