use Rattle.ckrt_thread.proofs.Known.{if_on_hart}
use Rattle.ckrt_thread.proofs.table.Threads.on_hart.Goals as goal

pub returns-clause-ready : goal.returns-clause-ready
returns-clause-ready c = if_on_hart c.args.self.now c.args.hart c.who_on.result c.who_on.ensures c.known.ensures
