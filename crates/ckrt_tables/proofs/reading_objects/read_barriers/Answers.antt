use Rattle.std.proofs.Common.{◌<◌, arith}
use Rattle.ckrt_barrier.specs.WellFormed.{IsTable}
use Rattle.ckrt_tables.specs.Records.{counted, one_byte, barrier_bytes}
use Rattle.ckrt_tables.specs.Savable.{fits_barrier}
use Rattle.ckrt_tables.proofs.Entries.{entries_found}
use Rattle.ckrt_tables.proofs.reading_objects.read_barriers.Goals as goal

pub returns : goal.returns
returns c =
    entries_found IsTable fits_barrier (counted one_byte barrier_bytes) (λ n. n < 256) (λ es are. let few = are.table.at_most_64 in omega (arith, few))
    c.args.cursor.now c.args.barriers.now c.read_few.new.table c.read_few.new.cursor c.requires c.read_few.ensures
