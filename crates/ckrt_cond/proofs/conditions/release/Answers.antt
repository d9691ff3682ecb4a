use Rattle.ckrt_cond.proofs.Released.{may_begin, release_queue}
use Rattle.ckrt_cond.proofs.Kept.{after_release}
use Rattle.ckrt_cond.proofs.conditions.release.Goals as goal

pub returns-clause-released : goal.returns-clause-released
returns-clause-released c =
    rw (c.unlock.ensures.threads, c.unlock.ensures.mutexes)
    (after_release c.args.thread c.args.condition c.args.mutex c.args.threads.now c.args.mutexes.now c.known.ensures c.requires.live c.requires.free c.requires.well_formed c.requires.conditions c.requires.allowed)

pub returns-clause-queue : goal.returns-clause-queue
returns-clause-queue c =
    let o = may_begin c.args.thread c.args.condition c.args.mutex c.args.threads.now c.args.mutexes.now c.requires.allowed in
    rw c.unlock.ensures.threads (release_queue c.args.thread c.args.condition c.args.mutex c.args.threads.now c.args.mutexes.now c.known.ensures o.0)
