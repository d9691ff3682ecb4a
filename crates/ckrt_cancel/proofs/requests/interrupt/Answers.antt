use Rattle.ckrt_thread.proofs.Known.{waits_at_most_once}
use Rattle.ckrt_thread.proofs.WaitLemmas.{gone}
use Rattle.ckrt_cancel.proofs.requests.interrupt.Goals as goal

pub act_on_request-requires-clause-free : goal.act_on_request-requires-clause-free
act_on_request-requires-clause-free c =
    rw c.take_wait.ensures (gone c.args.thread c.args.threads.now.waits (waits_at_most_once c.args.threads.now c.args.thread c.known.ensures))
