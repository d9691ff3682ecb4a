use Rattle.ckrt_cli.proofs.HistoryRunLemmas.{keeps_acknowledged, keeps_history}
use Rattle.ckrt_cli.proofs.runs.runs_keep_histories.Goals as goal

pub returns-clause-keep : goal.returns-clause-keep
returns-clause-keep g c = keeps_history g.D.Disk g.O.Disk

pub returns-clause-acknowledged : goal.returns-clause-acknowledged
returns-clause-acknowledged g c = keeps_acknowledged g.D.Disk g.O.Disk g.met.D.Disk.counts_now g.met.O.Disk.counts_now c.runs_stand_beside_a_history.ensures.acknowledged
