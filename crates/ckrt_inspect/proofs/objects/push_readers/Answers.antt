use Rattle.std.proofs.Common.{◌<◌, ◌++◌, ◌∙◌, length, ap, arith}
use Rattle.std.specs.List.{flat_map}
use Rattle.std.proofs.lemmas.List.{take_all}
use Rattle.ckrt_tables.specs.Records.{readers_from}
use Rattle.ckrt_inspect.specs.Listing.{reader_text}
use Rattle.ckrt_inspect.proofs.PushLemmas.{pushed_count}
use Rattle.ckrt_inspect.proofs.objects.push_readers.Goals as goal

pub loop-id-preserved : goal.loop-id-preserved
loop-id-preserved c =
    let within : c.loop-id.id < length c.args.counts.now = omega (arith, c.told-counts, c.loop-id-test.true) in
    pushed_count c.args.counts.now c.loop-id.id c.args.out.now.items c.loop-id.out.items c.push_reader.new.out.items within c.loop-id.invariant c.in_ok-push_reader.ensures

pub returns : goal.returns
returns c = c.loop-id.invariant ∙ ap (λ l. c.args.out.now.items ++ flat_map reader_text (readers_from 0 l)) (take_all c.loop-id.id c.args.counts.now (omega (arith, c.told-counts, c.loop-id-test.false)))
