use Rattle.std.proofs.Common.{◌∙◌}
use Rattle.ckrt_thread.specs.declared.records.RetakeResult.TheVariants as retake
use Rattle.ckrt_cond.proofs.Rows.{conditions_retake, queue_retake}
use Rattle.ckrt_cond.proofs.conditions.release_and_retake.Goals as goal

pub returns-clause-conditions : goal.returns-clause-conditions
returns-clause-conditions c =
    rw c.retake.ensures.threads (conditions_retake c.args.thread c.args.mutex retake.TimedOut c.release.new.threads c.release.new.mutexes c.release.ensures.released.conditions)

pub returns-clause-queue : goal.returns-clause-queue
returns-clause-queue c =
    rw c.retake.ensures.threads (queue_retake c.args.condition c.args.thread c.args.mutex retake.TimedOut c.release.new.threads c.release.new.mutexes c.known.ensures ∙ c.release.ensures.queue)
