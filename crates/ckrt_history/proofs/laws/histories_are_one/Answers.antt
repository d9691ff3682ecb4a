use Rattle.ckrt_history.proofs.HistoryLemmas.{no_fault, recorded_once}
use Rattle.ckrt_history.proofs.laws.histories_are_one.Goals as goal

pub returns-clause-once : goal.returns-clause-once
returns-clause-once c = recorded_once

pub returns-clause-no_fault : goal.returns-clause-no_fault
returns-clause-no_fault c = no_fault
