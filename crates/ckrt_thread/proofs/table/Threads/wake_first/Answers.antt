use Rattle.std.proofs.Common.{sym}
use Rattle.ckrt_thread.specs.Waits.{is_for}
use Rattle.ckrt_thread.proofs.Known.{found_range}
use Rattle.ckrt_thread.proofs.Changes.{well_formed_without_first}
use Rattle.ckrt_thread.proofs.Waking.{ready_first}
use Rattle.ckrt_thread.proofs.table.Threads.wake_first.Goals as goal

pub invariant_of-self-2 : goal.invariant_of-self-2
invariant_of-self-2 c = rw c.take_first.ensures.rest (well_formed_without_first _ c.args.object c.self.invariant)

pub returns-clause-ready : goal.returns-clause-ready
returns-clause-ready c =
    rw c.take_first.ensures.rest (ready_first c.args.object c.in_ok-wait.wait (record { threads = c.self.inside.slots; waits = c.self.inside.waits; harts = c.self.inside.harts; hart_count = c.self.inside.hart_count; keys = c.self.inside.keys }) (sym c.in_ok-wait.ensures.first) c.self.invariant)

pub returns-clause-thread : goal.returns-clause-thread
returns-clause-thread c = rw (← c.in_ok-wait.ensures.first) at (found_range _ (is_for c.args.object) c.self.invariant)
