use Rattle.std.proofs.Common.{◌≡◌, ◌∙◌, ap, length, rules}
use Rattle.ckrt_look_clocks.specs.LockOrders.{are_alike}
use Rattle.ckrt_look_clocks.proofs.order.are_alike.Goals as goal

-- all places
pub returns : goal.returns
returns c =
    let all : c.loop-place.place ≡ length c.args.a.now = search rules in
    c.loop-place.invariant ∙ ap (λ n. are_alike n c.args.a.now c.args.b.now) all
