use Rattle.std.proofs.Common.{sym, ap}
use Rattle.ckrt_mutex.specs.Mutex.{put}
use Rattle.ckrt_mutex.proofs.Granting.{grants_waiter}
use Rattle.ckrt_mutex.proofs.mutexes.Mutexes.hand_over.Goals as goal

pub returns-clause-threads : goal.returns-clause-threads
returns-clause-threads c =
    rw (c.answer.ensures, c.result.ensures, c.wake_first.ensures.threads) (sym (ap (λ r. r.1) (grants_waiter c.args.address c.args.kind c.args.threads.now c.in-Some.waiter c.in-Some.ensures.first)))

pub returns-clause-mutexes : goal.returns-clause-mutexes
returns-clause-mutexes c =
    rw (c.put-2.ensures, c.owned.ensures) (sym (ap (λ r. put c.args.address r.0 c.args.self.now) (grants_waiter c.args.address c.args.kind c.args.threads.now c.in-Some.waiter c.in-Some.ensures.first)))
