use Rattle.ckrt_thread.proofs.Known.{live_range}
use Rattle.ckrt_thread.proofs.table.Threads.known_live.Goals as goal

pub returns : goal.returns
returns c = live_range _ c.args.thread c.self.invariant (rw (← c.self.view_is) at c.requires)
