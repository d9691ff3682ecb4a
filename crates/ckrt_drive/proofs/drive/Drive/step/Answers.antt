use Rattle.ckrt_drive.proofs.RunLemmas.{stops_rightly}
use Rattle.ckrt_drive.proofs.drive.Drive.step.Goals as goal

pub returns-clause-ends : goal.returns-clause-ends
returns-clause-ends g c =
    let d = c.args.self.now in
    let k = c.step.ensures.steps in
    stops_rightly g.O.Disk d.options k.supply d.left c.step.new.left d.session c.step.new.session d.output c.step.new.output c.step.result k.left k.steps c.step.ensures.left
