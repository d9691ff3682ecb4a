use Rattle.std.proofs.Common.{arith}
use Rattle.std.proofs.lemmas.Bool.Decides.{nat_tests}
use Rattle.ckrt_thread.proofs.KeyLemmas.{no_value}
use Rattle.ckrt_thread.proofs.table.Threads.create.Goals as goal

pub set_slot-requires-clause-values : goal.set_slot-requires-clause-values
set_slot-requires-clause-values c = rw c.new_thread.ensures (λ k _. no_value k)

pub returns-clause-threads : goal.returns-clause-threads
returns-clause-threads c =
    rw (c.set_second_result.ensures, c.set_slot.ensures, c.new_thread.ensures)
    (grind (arith, nat_tests, c.if-start-ne0.false, c.if-detached-gt1.false, c.in-Some.ensures.place))
