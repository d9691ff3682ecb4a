use Rattle.ckrt_machine.proofs.WellFormedImplies.{no_admissible_wait, exclusive, no_admissible_locker, waits_once, ready_on_hart}
use Rattle.ckrt_machine.proofs.laws.well_formed_implies.Goals as goal

pub returns-clause-mutexes : goal.returns-clause-mutexes
returns-clause-mutexes c = no_admissible_wait

pub returns-clause-rwlocks : goal.returns-clause-rwlocks
returns-clause-rwlocks c = exclusive

pub returns-clause-waits : goal.returns-clause-waits
returns-clause-waits c = waits_once

pub returns-clause-harts : goal.returns-clause-harts
returns-clause-harts c = ready_on_hart

pub returns-clause-rwlock_waiters : goal.returns-clause-rwlock_waiters
returns-clause-rwlock_waiters c = no_admissible_locker
