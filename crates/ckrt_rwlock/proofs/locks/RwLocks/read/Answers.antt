use Rattle.std.proofs.Common.{arith}
use Rattle.ckrt_rwlock.proofs.Holders.{proper_reads}
use Rattle.ckrt_rwlock.proofs.locks.RwLocks.read.Goals as goal

pub put-requires-clause-proper : goal.put-requires-clause-proper
put-requires-clause-proper c =
    rw (c.with_read_count.ensures, c.read_count.ensures) (proper_reads c.args.lock c.args.thread _ c.requires.proper c.requires.id.0 (omega (arith, c.requires.count)))
