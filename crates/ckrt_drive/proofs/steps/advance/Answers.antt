use Rattle.std.proofs.Common.{◌≡◌, nat_lt, false, rules}
use Rattle.ckrt_drive.proofs.StepLemmas.{steps_on, unread}
use Rattle.ckrt_drive.proofs.steps.advance.Goals as goal

pub returns-clause-steps : goal.returns-clause-steps
returns-clause-steps g c =
    let s = c.args.session.now in
    let none : nat_lt s.progress.confirmed s.released ≡ false = search rules in
    steps_on g.O.Disk c.args.options.now c.args.supply s c.go_on.new.session c.args.output.now c.go_on.result none c.go_on.ensures

pub returns-clause-unread : goal.returns-clause-unread
returns-clause-unread g c = unread _ c.args.session.now c.go_on.new.session c.go_on.result c.go_on.ensures
