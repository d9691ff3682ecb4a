use Rattle.std.proofs.Common.{◌<◌, ◌++◌, ◌∙◌, length, ap, arith}
use Rattle.std.specs.List.{flat_map}
use Rattle.std.proofs.lemmas.List.{take_all}
use Rattle.ckrt_thread.specs.Contents.{rows_from, rows_of}
use Rattle.ckrt_tables.proofs.Rows.{at_place}
use Rattle.ckrt_inspect.specs.Metrics.{thread_line}
use Rattle.ckrt_inspect.proofs.PushLemmas.{pushed_slot}
use Rattle.ckrt_inspect.proofs.metrics.push_threads.Goals as goal

pub loop-id-preserved : goal.loop-id-preserved
loop-id-preserved c =
    let ts = c.args.threads.now.threads in
    let id = c.loop-id.id in
    let line = thread_line c.args.status c.args.threads.now in
    let within : c.loop-id.id < length c.args.threads.now.threads = omega (arith, c.known.ensures.size, c.loop-id-test.true) in
    pushed_slot line ts id c.args.out.now.items c.loop-id.out.items c.push_slot.new.out.items within c.loop-id.invariant
    (c.in_ok-push_slot.ensures ∙ ap (λ o. c.loop-id.out.items ++ flat_map line (rows_of id o)) (at_place ts id within))

pub returns : goal.returns
returns c =
    let line = thread_line c.args.status c.args.threads.now in
    c.loop-id.invariant ∙ ap (λ l. c.args.out.now.items ++ flat_map line (rows_from 0 l)) (take_all c.loop-id.id c.args.threads.now.threads (omega (arith, c.known.ensures.size, c.loop-id-test.false)))
