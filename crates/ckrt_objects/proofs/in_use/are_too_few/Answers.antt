use Rattle.std.proofs.Common.{arith}
use Rattle.std.proofs.lemmas.Bool.Decides.{nat_tests}
use Rattle.ckrt_thread.proofs.Naming.{named_le}
use Rattle.ckrt_objects.proofs.InUse.{count_named}
use Rattle.ckrt_objects.proofs.in_use.are_too_few.Goals as goal

pub returns-then-entries-wait_count-clause-value : goal.returns-then-entries-wait_count-clause-value
returns-then-entries-wait_count-clause-value g c =
    let named = named_le c.args.threads.now.waits in
    grind (arith, nat_tests, named, c.if-entries-wait_count.true, c.wait_count.ensures.count)

pub returns-then-entries-wait_count-clause-few : goal.returns-then-entries-wait_count-clause-few
returns-then-entries-wait_count-clause-few g c =
    let named = named_le c.args.threads.now.waits in
    let count = count_named g.T.Named.named c.args.threads.now.waits c.args.entries.now g.met.T.Named.by_object c.requires.rising in
    λ _. omega (arith, named, count, c.if-entries-wait_count.true, c.wait_count.ensures.count)
