use Rattle.std.proofs.Common.{◌∙◌}
use Rattle.ckrt_look_heap.proofs.WalkLemmas.{event_noted}
use Rattle.ckrt_look_heap.proofs.walk.watch_event.Goals as goal

pub returns-clause-watched : goal.returns-clause-watched
returns-clause-watched c = c.watch_event.ensures.watched ∙ event_noted c.args.count c.args.event.now c.args.machine.now.state c.args.shadow.now
