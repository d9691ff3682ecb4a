use Rattle.ckrt_cli.proofs.HistoryManyLemmas.{runs_are_beside, runs_stand_on}
use Rattle.ckrt_cli.proofs.laws.commands_go_on_beside_a_history.Goals as goal

pub returns-clause-are : goal.returns-clause-are
returns-clause-are g c = λ rules. runs_are_beside _ (λ disk t image honest earlier may. c.disk_laws.ensures.counts_now disk t image honest earlier may)

pub returns-clause-stand : goal.returns-clause-stand
returns-clause-stand g c =
    let law = c.runs_stand_beside_a_history.ensures in
    λ rules. runs_stand_on _ (λ disk t image honest earlier may. c.disk_laws.ensures.counts_now disk t image honest earlier may) law.begin law.stand
