use Rattle.ckrt_schedule.proofs.RunTurnLemmas.{each_runs}
use Rattle.ckrt_schedule.proofs.laws.each_runs.Goals as goal

pub returns : goal.returns
returns c = each_runs
