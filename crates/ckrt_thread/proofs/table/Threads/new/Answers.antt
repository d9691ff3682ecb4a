use Rattle.ckrt_thread.proofs.Changes.{initial_in_empty}
use Rattle.ckrt_thread.proofs.KeyLemmas.{no_value}
use Rattle.ckrt_thread.proofs.table.Threads.new.Goals as goal

pub set_slot-requires-clause-initial : goal.set_slot-requires-clause-initial
set_slot-requires-clause-initial c = λ t i j. initial_in_empty _ _ c.args.harts t c.in_ok-threads.ensures j

pub set_slot-requires-clause-values : goal.set_slot-requires-clause-values
set_slot-requires-clause-values c = rw c.first_thread.ensures (λ k _. no_value k)
