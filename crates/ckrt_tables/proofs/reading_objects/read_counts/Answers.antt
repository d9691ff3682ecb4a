use Rattle.std.proofs.Common.{◌<◌, sym, length, arith}
use Rattle.ckrt_tables.specs.declared.reading_objects.ReadCounts.{ReadCounts}
use Rattle.ckrt_tables.specs.Records.{readers_from}
use Rattle.ckrt_tables.proofs.Counts.{readers_fewer, readers_fit, counts_found}
use Rattle.ckrt_tables.proofs.reading_objects.read_counts.Goals as goal

pub returns : goal.returns
returns c = λ ns rest are e.
    let size = are.0 in
    let all : ReadCounts = record { by_id = ns } in
    let few : length (readers_from 0 ns) < 256 = omega (arith, size, readers_fewer 0 ns) in
    let got = c.read_few.ensures all (readers_from 0 ns) rest few (readers_fit 0 ns (omega (arith, size)) are.1) (sym (counts_found ns size)) e in
    (sym got.0, got.1)
