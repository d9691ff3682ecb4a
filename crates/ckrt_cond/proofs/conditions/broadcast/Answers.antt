use Rattle.std.proofs.Common.{sym, ap, ◌∙◌}
use Rattle.ckrt_cond.proofs.Woken.{broadcast_step, broadcast_end, fewer_waiters, none_left}
use Rattle.ckrt_cond.proofs.conditions.broadcast.Goals as goal

pub loop-preserved : goal.loop-preserved
loop-preserved c = record {
  well_formed = c.wake_first.ensures.well_formed;
  conditions = c.wake_first.ensures.conditions;
  row =
      broadcast_step c.args.condition c.loop.threads c.wake_first.new.threads c.loop.mutexes c.wake_first.new.mutexes c.wake_first.ensures.threads c.wake_first.ensures.mutexes c.wake_first.ensures.queue
      ∙ c.loop.invariant.row;
}

pub loop-smaller : goal.loop-smaller
loop-smaller c = fewer_waiters c.args.condition c.loop.threads c.wake_first.new.threads (sym c.loop-test.ensures.waiting) c.wake_first.ensures.queue

pub returns-clause-all : goal.returns-clause-all
returns-clause-all c = none_left c.args.condition c.loop.threads c.wake_first.new.threads (sym c.loop-test.ensures.waiting) c.wake_first.ensures.queue

pub returns-clause-result : goal.returns-clause-result
returns-clause-result c =
    sym
    (ap (λ r. r.result)
    (sym c.loop.invariant.row
    ∙ broadcast_end c.args.condition c.loop.threads c.wake_first.new.threads c.loop.mutexes c.wake_first.new.mutexes (sym c.loop-test.ensures.waiting) c.wake_first.ensures.threads c.wake_first.ensures.mutexes c.wake_first.ensures.queue))

pub returns-clause-threads : goal.returns-clause-threads
returns-clause-threads c =
    sym
    (ap (λ r. r.threads)
    (sym c.loop.invariant.row
    ∙ broadcast_end c.args.condition c.loop.threads c.wake_first.new.threads c.loop.mutexes c.wake_first.new.mutexes (sym c.loop-test.ensures.waiting) c.wake_first.ensures.threads c.wake_first.ensures.mutexes c.wake_first.ensures.queue))

pub returns-clause-mutexes : goal.returns-clause-mutexes
returns-clause-mutexes c =
    sym
    (ap (λ r. r.mutexes)
    (sym c.loop.invariant.row
    ∙ broadcast_end c.args.condition c.loop.threads c.wake_first.new.threads c.loop.mutexes c.wake_first.new.mutexes (sym c.loop-test.ensures.waiting) c.wake_first.ensures.threads c.wake_first.ensures.mutexes c.wake_first.ensures.queue))
