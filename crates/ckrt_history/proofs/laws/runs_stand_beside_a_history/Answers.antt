use Rattle.ckrt_history.proofs.ManyLemmas.{begins_beside, keeps_acknowledged, runs_stand_beside}
use Rattle.ckrt_history.proofs.laws.runs_stand_beside_a_history.Goals as goal

pub returns-clause-begin : goal.returns-clause-begin
returns-clause-begin g c = begins_beside g.D.Disk g.O.Disk g.K.Disk

pub returns-clause-stand : goal.returns-clause-stand
returns-clause-stand g c =
    let d = g.met.D.Disk in let o = g.met.O.Disk in let k = g.met.K.Disk in
    runs_stand_beside d.only_now o.only_now k.only_now d.counts_now o.counts_now k.counts_now c.recovery_keeps_recorded.ensures

pub returns-clause-acknowledged : goal.returns-clause-acknowledged
returns-clause-acknowledged g c =
    let d = g.met.D.Disk in let o = g.met.O.Disk in let k = g.met.K.Disk in
    keeps_acknowledged d.only_now o.only_now k.only_now d.counts_now o.counts_now k.counts_now c.recovery_keeps_recorded.ensures
