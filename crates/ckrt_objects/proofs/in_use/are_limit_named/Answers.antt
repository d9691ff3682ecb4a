use Rattle.std.proofs.Common.{◌<◌, arith}
use Rattle.std.proofs.lemmas.Bool.Decides.{nat_tests}
use Rattle.ckrt_objects.specs.InUse.{count_in_use}
use Rattle.ckrt_objects.proofs.InUse.{count_done, count_short}
use Rattle.ckrt_objects.proofs.in_use.are_limit_named.Goals as goal

pub returns-then-count-waits : goal.returns-then-count-waits
returns-then-count-waits g c =
    let named = g.T.Named.named in
    let short : count_in_use named c.args.waits.now c.args.entries.now < c.args.limit =
    count_short named c.args.limit c.loop-place.count c.loop-place.place c.args.waits.now c.args.entries.now c.requires.rising (omega arith) c.loop-place.invariant.counted (omega arith) in
    grind (arith, nat_tests, short)

pub returns : goal.returns
returns g c =
    let named = g.T.Named.named in
    let done = count_done named c.args.waits.now c.args.entries.now c.loop-place.place (omega arith) c.requires.rising in
    grind (arith, nat_tests, done, c.loop-place.invariant.counted)
