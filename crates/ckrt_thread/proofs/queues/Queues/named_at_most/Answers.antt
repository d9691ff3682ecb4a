use Rattle.std.proofs.Common.{◌∙◌, ap}
use Rattle.ckrt_thread.specs.Queues.{named_by_all}
use Rattle.ckrt_thread.proofs.Naming.{named_in_queues}
use Rattle.ckrt_thread.proofs.queues.Queues.named_at_most.Goals as goal

pub returns : goal.returns
returns c = λ ws h. c.named_by_all.ensures ∙ ap named_by_all c.as_slice.ensures.value ∙ named_in_queues c.args.self.now ws h
