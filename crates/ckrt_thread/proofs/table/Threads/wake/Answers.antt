use Rattle.ckrt_thread.proofs.Known.{waiting_range}
use Rattle.ckrt_thread.proofs.table.Threads.wake.Goals as goal

pub set_result-requires : goal.set_result-requires
set_result-requires c = (waiting_range c.args.self.now c.args.thread c.known.ensures c.requires).1
