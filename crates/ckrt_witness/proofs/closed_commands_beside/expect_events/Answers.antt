use Rattle.std.proofs.Common.{arith}
use Rattle.ckrt_witness.proofs.closed_commands_beside.expect_events.Goals as goal

pub returns : goal.returns
returns g c =
    let e = c.span_of-span.ensures in
    (e.recorded, e.has, grind (arith, e.count, c.expect_at_least.ensures))
