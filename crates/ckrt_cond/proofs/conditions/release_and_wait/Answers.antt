use Rattle.ckrt_cond.proofs.Kept.{well_formed_waiting, queue_waiting}
use Rattle.ckrt_cond.proofs.conditions.release_and_wait.Goals as goal

pub returns-clause-well_formed : goal.returns-clause-well_formed
returns-clause-well_formed c =
    rw c.block.ensures (well_formed_waiting c.args.thread c.args.condition c.args.mutex c.args.deadline c.release.new.threads c.release.new.mutexes c.release.ensures.released).mutexes

pub returns-clause-conditions : goal.returns-clause-conditions
returns-clause-conditions c =
    rw c.block.ensures (well_formed_waiting c.args.thread c.args.condition c.args.mutex c.args.deadline c.release.new.threads c.release.new.mutexes c.release.ensures.released).conditions

pub returns-clause-queue : goal.returns-clause-queue
returns-clause-queue c = λ _. rw c.block.ensures (queue_waiting c.args.thread c.args.condition c.args.mutex c.args.deadline c.args.threads.now c.release.new.threads c.release.ensures.queue)
