use Rattle.ckrt_thread.proofs.DueWaits.{earliest_in}
use Rattle.ckrt_thread.proofs.table.Threads.earliest_due.Goals as goal

pub returns-clause-found : goal.returns-clause-found
returns-clause-found c =
    let e = rw (c.as_slice.ensures.value, c.in_order.ensures) at c.earliest_due.ensures in
    rw (← c.self.view_is) (earliest_in _ c.args.now _ e c.self.invariant)
