use Rattle.ckrt_machine.proofs.WellFormedImplies.{waiter_lives, on_one_hart, joined_is_joinable, joined_by_one, by_another}
use Rattle.ckrt_machine.proofs.laws.well_formed_implies_of_threads.Goals as goal

pub returns-clause-waiting : goal.returns-clause-waiting
returns-clause-waiting c = waiter_lives

pub returns-clause-one_hart : goal.returns-clause-one_hart
returns-clause-one_hart c = on_one_hart

pub returns-clause-joined : goal.returns-clause-joined
returns-clause-joined c = joined_is_joinable

pub returns-clause-joined_once : goal.returns-clause-joined_once
returns-clause-joined_once c = joined_by_one

pub returns-clause-joined_by_another : goal.returns-clause-joined_by_another
returns-clause-joined_by_another c = by_another
