use Rattle.ckrt_main.proofs.FoldLemmas.{state_folds, count_grows}
use Rattle.ckrt_main.proofs.laws.transcript_folds_events.Goals as goal

pub returns-clause-state : goal.returns-clause-state
returns-clause-state c = state_folds

pub returns-clause-count : goal.returns-clause-count
returns-clause-count c = count_grows
