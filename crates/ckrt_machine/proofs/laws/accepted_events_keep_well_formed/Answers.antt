use Rattle.ckrt_machine.proofs.KeptEvents.{well_formed_fold, no_mutex_waiter_after, no_lock_waiter_after, starts, starts_keys_off}
use Rattle.ckrt_machine.proofs.laws.accepted_events_keep_well_formed.Goals as goal

pub returns-clause-well_formed : goal.returns-clause-well_formed
returns-clause-well_formed c = well_formed_fold

pub returns-clause-mutexes : goal.returns-clause-mutexes
returns-clause-mutexes c = no_mutex_waiter_after

pub returns-clause-rwlocks : goal.returns-clause-rwlocks
returns-clause-rwlocks c = no_lock_waiter_after

pub returns-clause-starts : goal.returns-clause-starts
returns-clause-starts c = starts

pub returns-clause-starts_keys_off : goal.returns-clause-starts_keys_off
returns-clause-starts_keys_off c = starts_keys_off
