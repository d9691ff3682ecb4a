use Rattle.ckrt_thread.specs.Waits.{is_for}
use Rattle.ckrt_thread.proofs.Known.{found_range}
use Rattle.ckrt_thread.proofs.table.Threads.first_waiter.Goals as goal

pub returns-clause-thread : goal.returns-clause-thread
returns-clause-thread c = rw c.first_for.ensures (found_range _ (is_for c.args.object) c.self.invariant)
