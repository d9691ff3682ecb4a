use Rattle.ckrt_calls.specs.WellFormed.{IsWellFormed}
use Rattle.ckrt_test_machine.proofs.calls.create_threads.Given as goal

abbrev pub invariant-loop-id : goal.invariant-loop-id
invariant-loop-id g l = IsWellFormed l.tables
