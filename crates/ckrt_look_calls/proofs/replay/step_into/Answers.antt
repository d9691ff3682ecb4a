use Rattle.std.proofs.Common.{◌≡◌, Some, drop, rules}
use Rattle.ckrt_look_calls.specs.Replays.{first_steps}
use Rattle.ckrt_look_calls.proofs.ReplayLemmas.{first_accepted}
use Rattle.ckrt_look_calls.proofs.replay.step_into.Goals as goal

pub step-requires-clause-in_range : goal.step-requires-clause-in_range
step-requires-clause-in_range c =
    let ahead = drop c.args.made c.args.events.now in
    let found : first_steps c.args.steps ahead ≡ Some c.in-Some.event = search rules in
    (first_accepted c.args.steps ahead c.in-Some.event c.args.machine.now.state found c.requires.accepted).in_range

pub step-requires-clause-accepted : goal.step-requires-clause-accepted
step-requires-clause-accepted c =
    let ahead = drop c.args.made c.args.events.now in
    let found : first_steps c.args.steps ahead ≡ Some c.in-Some.event = search rules in
    (first_accepted c.args.steps ahead c.in-Some.event c.args.machine.now.state found c.requires.accepted).accepted
