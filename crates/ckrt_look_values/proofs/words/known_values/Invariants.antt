use Rattle.std.proofs.Common.{◌≡◌, replicate}
use Rattle.ckrt_look_values.specs.Values.{known}
use Rattle.ckrt_look_values.proofs.words.known_values.Given as goal

-- of so many all is known
abbrev pub invariant-loop : goal.invariant-loop
invariant-loop l = l.values.items ≡ replicate l.counter known
