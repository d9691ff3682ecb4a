use Rattle.std.proofs.Common.{◌<◌, length, subst, arith}
use Rattle.std.specs.List.{flat_map}
use Rattle.std.proofs.lemmas.List.{take_all}
use Rattle.ckrt_tables.specs.Records.{reader_bytes, readers_from}
use Rattle.ckrt_tables.specs.Writing.{IsPut}
use Rattle.ckrt_tables.proofs.Slots.{put_reader_next, room_reader_next}
use Rattle.ckrt_tables.proofs.objects.put_readers.Goals as goal

pub put_reader-end-requires : goal.put_reader-end-requires
put_reader-end-requires c =
    let ns = c.args.counts.now in
    let within : c.loop-id.id < length ns = omega (arith, c.told-counts, c.loop-id-test.true) in
    let room = room_reader_next c.args.out.now c.args.at ns c.loop-id.id c.loop-id.out c.loop-id.end within c.loop-id.invariant c.requires in
    omega (arith, room, c.loop-id.auto.out)

pub loop-id-preserved : goal.loop-id-preserved
loop-id-preserved c =
    let ns = c.args.counts.now in
    let within : c.loop-id.id < length ns = omega (arith, c.told-counts, c.loop-id-test.true) in
    put_reader_next c.args.out.now c.args.at ns c.loop-id.id c.loop-id.out c.loop-id.end c.put_reader-end.new.out c.put_reader-end.result within c.loop-id.invariant c.put_reader-end.ensures

pub returns : goal.returns
returns c =
    let whole = take_all c.loop-id.id c.args.counts.now (omega (arith, c.told-counts, c.loop-id-test.false)) in
    subst (λ l. IsPut c.args.out.now c.args.at (flat_map reader_bytes (readers_from 0 l)) c.loop-id.out c.loop-id.end) whole c.loop-id.invariant
