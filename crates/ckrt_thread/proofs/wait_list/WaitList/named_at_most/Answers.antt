use Rattle.std.proofs.Common.{ap, ◌∙◌, arith}
use Rattle.std.proofs.lemmas.List.{length-map}
use Rattle.ckrt_thread.specs.WaitList.{waits_along}
use Rattle.ckrt_thread.specs.Queues.{ids, named_at_most}
use Rattle.ckrt_thread.proofs.Naming.{named_le}
use Rattle.ckrt_thread.proofs.Paths.{chain_short}
use Rattle.ckrt_thread.proofs.wait_list.WaitList.named_at_most.Goals as goal

pub returns-clause-value : goal.returns-clause-value
returns-clause-value c =
    let ws = waits_along c.self.inside.entries c.self.inside.links c.self.inside.ends in
    c.named_at_most.ensures ws c.self.invariant.queues ∙ ap named_at_most c.self.view_is

pub returns-clause-fits : goal.returns-clause-fits
returns-clause-fits c =
    let ws = waits_along c.self.inside.entries c.self.inside.links c.self.inside.ends in
    let n = c.named_at_most.ensures ws c.self.invariant.queues in
    let most = named_le ws in
    let size = c.self.invariant.order.count ∙ length-map ws (λ w. w.thread) in
    let short = chain_short c.self.inside.links c.self.inside.ends (ids ws) c.self.invariant.order in
    omega (arith, n, most, size, short)
