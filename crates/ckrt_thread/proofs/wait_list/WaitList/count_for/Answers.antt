use Rattle.std.proofs.Common.{arith}
use Rattle.ckrt_thread.specs.Waits.{is_for}
use Rattle.ckrt_thread.specs.Queues.{ends_of}
use Rattle.ckrt_thread.specs.WaitList.{waits_along}
use Rattle.ckrt_thread.proofs.Paths.{chain_short}
use Rattle.ckrt_thread.proofs.Kept.{queue_length}
use Rattle.ckrt_thread.proofs.wait_list.WaitList.count_for.Goals as goal

pub returns-clause-value : goal.returns-clause-value
returns-clause-value c =
    rw (← c.self.view_is, c.ends_of.ensures, c.as_slice.ensures.value) (queue_length c.self.inside.queues.links (ends_of c.args.object c.self.inside.queues.directory.items) (is_for c.args.object) (waits_along c.self.inside.entries c.self.inside.links c.self.inside.ends) (c.self.invariant.queues.chains c.args.object))

pub returns-clause-fits : goal.returns-clause-fits
returns-clause-fits c =
    let s = chain_short c.self.inside.queues.links (ends_of c.args.object c.self.inside.queues.directory.items) _ (c.self.invariant.queues.chains c.args.object) in
    rw (c.ends_of.ensures, c.as_slice.ensures.value) (omega (arith, s))
