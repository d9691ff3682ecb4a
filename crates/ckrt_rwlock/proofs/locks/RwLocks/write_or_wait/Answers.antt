use Rattle.std.proofs.Common.{sym, ◌∙◌}
use Rattle.ckrt_rwlock.proofs.WellFormed.{room_of_unfull}
use Rattle.ckrt_rwlock.proofs.locks.RwLocks.write_or_wait.Goals as goal

pub put-requires-clause-room : goal.put-requires-clause-room
put-requires-clause-room c =
    room_of_unfull c.args.address c.args.threads.now c.args.self.now c.known.ensures.table c.requires.few (sym c.is_full.ensures ∙ c.if-is_full.false)
