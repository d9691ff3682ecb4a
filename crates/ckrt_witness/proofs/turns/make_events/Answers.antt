use Rattle.std.proofs.Common.{rules, ◌≡◌, true}
use Rattle.ckrt_witness.proofs.TurnLemmas.{nothing_made, one_made}
use Rattle.ckrt_witness.proofs.turns.make_events.Goals as goal

pub loop-behind-init : goal.loop-behind-init
loop-behind-init c = nothing_made c.args.schedule c.args.machine.now.state

pub loop-behind-preserved : goal.loop-behind-preserved
loop-behind-preserved c =
    let is : c.make_one.result ≡ true = search rules in
    one_made c.args.schedule c.loop-behind.behind c.args.machine.now.state c.loop-behind.machine.state c.make_one.new.machine.state c.loop-behind.invariant (c.make_one.ensures is)
