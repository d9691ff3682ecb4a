use Rattle.std.proofs.Common.{◌<◌, length, length-append, take, get_or, sym, ap, ◌∙◌, arith}
use Rattle.std.proofs.lemmas.List.{take_all}
use Rattle.ckrt_tables.specs.Records.{reader_at, readers_from}
use Rattle.ckrt_tables.proofs.Slots.{readers_next, length_reader_at}
use Rattle.ckrt_tables.proofs.objects.reader_count.Goals as goal

pub loop-id-preserved : goal.loop-id-preserved
loop-id-preserved c =
    let ns = c.args.counts.now in
    let i = c.loop-id.id in
    let within : i < length ns = omega (arith, c.told-counts, c.loop-id-test.true) in
    let next = ap length (readers_next ns i within) in
    let parts = length-append (readers_from 0 (take i ns)) (reader_at i (get_or ns i 0)) in
    let one = c.one_if_any-readers.ensures.one ∙ sym (length_reader_at i (get_or ns i 0)) in
    record {
      few = omega (arith, c.loop-id.invariant.few, c.one_if_any-readers.ensures.most);
      readers = omega (arith, c.loop-id.invariant.readers, next, parts, one);
    }

pub returns : goal.returns
returns c = c.loop-id.invariant.readers ∙ ap (λ l. length (readers_from 0 l)) (take_all c.loop-id.id c.args.counts.now (omega (arith, c.told-counts, c.loop-id-test.false)))
