use Rattle.ckrt_schedule.proofs.RunTurnLemmas as turns
use Rattle.ckrt_schedule.proofs.laws.owner_runs_at_once.Goals as goal

pub returns : goal.returns
returns c = turns.runs_at_once
