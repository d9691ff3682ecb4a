use Rattle.std.proofs.Common.{arith}
use Rattle.ckrt_thread.specs.Queues.{ids}
use Rattle.ckrt_thread.specs.WaitList.{waits_along}
use Rattle.ckrt_thread.proofs.Paths.{chain_short}
use Rattle.ckrt_thread.proofs.wait_list.WaitList.len.Goals as goal

pub returns-clause-fits : goal.returns-clause-fits
returns-clause-fits c = (let s = chain_short c.self.inside.links c.self.inside.ends (ids (waits_along c.self.inside.entries c.self.inside.links c.self.inside.ends)) c.self.invariant.order in omega (arith, s))
