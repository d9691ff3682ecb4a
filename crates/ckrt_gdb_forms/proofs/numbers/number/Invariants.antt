use Rattle.std.proofs.Common.{◌≡◌, Some, length}
use Rattle.ckrt_gdb_forms.specs.Numbers.{number_onto}
use Rattle.ckrt_gdb_forms.proofs.numbers.number.Given as goal

abbrev pub invariant-loop-rest : goal.invariant-loop-rest
invariant-loop-rest l = number_onto (Some 0) l.word ≡ number_onto (Some l.value) l.rest

abbrev pub decreases-loop-rest : goal.decreases-loop-rest
decreases-loop-rest l = length l.rest
