use Rattle.std.proofs.Common.{◌≡◌, subst, arith}
use Rattle.ckrt_tables.specs.DecodingThreads.{HartsLeadTo}
use Rattle.ckrt_tables.proofs.ThreadsRead.{placed_all}
use Rattle.ckrt_stored.proofs.threads.place_all.Goals as goal

pub returns : goal.returns
returns c =
    let done : c.loop-hart.hart ≡ 8 = omega (arith, c.loop-hart-test.false, c.loop-hart.auto.hart-end) in
    placed_all c.loop-hart.threads c.args.kept.now c.known.ensures (subst (λ k. HartsLeadTo k c.loop-hart.threads c.args.kept.now) done c.loop-hart.invariant)
