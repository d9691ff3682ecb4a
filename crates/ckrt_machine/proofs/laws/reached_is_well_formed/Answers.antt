use Rattle.ckrt_machine.proofs.KeptEvents.{well_formed_reached, no_mutex_waiter, no_lock_waiter}
use Rattle.ckrt_machine.proofs.laws.reached_is_well_formed.Goals as goal

pub returns-clause-well_formed : goal.returns-clause-well_formed
returns-clause-well_formed c = well_formed_reached

pub returns-clause-mutexes : goal.returns-clause-mutexes
returns-clause-mutexes c = no_mutex_waiter

pub returns-clause-rwlocks : goal.returns-clause-rwlocks
returns-clause-rwlocks c = no_lock_waiter
