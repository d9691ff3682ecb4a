use Rattle.std.proofs.Common.{◌≡◌, ◌∙◌, ap, length, rules}
use Rattle.ckrt_look_clocks.specs.LockOrders.{blocker}
use Rattle.ckrt_look_clocks.proofs.order.blocker.Goals as goal

-- all places
pub returns : goal.returns
returns c =
    let all : c.loop-place.place ≡ length c.args.locks.now = search rules in
    c.loop-place.invariant ∙ ap (λ n. blocker n c.args.taking.now c.args.locks.now) all
