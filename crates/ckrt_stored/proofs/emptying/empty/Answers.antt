use Rattle.std.proofs.Common.{◌≡◌, subst, arith}
use Rattle.ckrt_stored.proofs.EmptyingLemmas.{IsEmptyBelow, is_empty}
use Rattle.ckrt_stored.proofs.emptying.empty.Goals as goal

pub returns : goal.returns
returns c =
    let done : c.loop-id.id ≡ 65 = omega (arith, c.loop-id-test.false, c.loop-id.auto.id-end) in
    is_empty c.args.threads.now c.loop-id.threads c.known-2.ensures (subst (λ k. IsEmptyBelow k c.args.threads.now c.loop-id.threads) done c.loop-id.invariant)
