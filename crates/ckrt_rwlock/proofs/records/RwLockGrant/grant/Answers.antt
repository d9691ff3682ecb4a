use Rattle.std.proofs.Common.{arith}
use Rattle.ckrt_rwlock.specs.RwLock.{with_read_count}
use Rattle.ckrt_rwlock.proofs.Holders.{proper_reads, exclusive_unwritten}
use Rattle.ckrt_rwlock.proofs.WellFormed.{admitted_unwritten}
use Rattle.ckrt_rwlock.proofs.records.RwLockGrant.grant.Goals as goal

pub returns-in-Read-clause-proper : goal.returns-in-Read-clause-proper
returns-in-Read-clause-proper c =
    rw c.with_read_count.ensures
    (proper_reads c.args.self.now c.args.wait.now.thread 1 c.requires.proper.0 c.requires.thread.0 (omega arith), exclusive_unwritten (with_read_count c.args.wait.now.thread 1 c.args.self.now) (admitted_unwritten c.args.wait.now.reason c.in-Read.field-0 c.args.self.now c.in-Read.is c.requires.admissible))
