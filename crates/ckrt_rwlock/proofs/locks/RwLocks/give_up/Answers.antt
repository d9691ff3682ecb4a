use Rattle.std.proofs.Common.{sym, ◌∙◌}
use Rattle.ckrt_rwlock.proofs.Holders.{proper_given_up}
use Rattle.ckrt_rwlock.proofs.WellFormed.{room_of_holder}
use Rattle.ckrt_rwlock.proofs.locks.RwLocks.give_up.Goals as goal

pub release-requires-clause-room : goal.release-requires-clause-room
release-requires-clause-room c =
    room_of_holder c.args.address c.args.thread c.lock-lock.result c.args.self.now c.lock-lock.ensures.lock (sym c.is_holder.ensures ∙ c.if-not-is_holder.false)

pub release-requires-clause-proper : goal.release-requires-clause-proper
release-requires-clause-proper c =
    rw c.given_up_by.ensures (proper_given_up c.lock-lock.result c.args.thread c.lock-lock.ensures.proper c.known_live.ensures.0)
