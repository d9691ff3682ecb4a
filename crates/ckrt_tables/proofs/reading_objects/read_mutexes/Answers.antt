use Rattle.std.proofs.Common.{◌<◌, ◌^◌, arith}
use Rattle.ckrt_objects.specs.Appended.{IsTableUpTo}
use Rattle.ckrt_mutex.specs.Mutex.{IsTable}
use Rattle.ckrt_tables.specs.Records.{counted, two_bytes, mutex_bytes}
use Rattle.ckrt_tables.specs.Savable.{fits_mutex}
use Rattle.ckrt_tables.proofs.Entries.{entries_found}
use Rattle.ckrt_tables.proofs.reading_objects.read_mutexes.Goals as goal

pub returns : goal.returns
returns c =
    entries_found (IsTableUpTo 256 IsTable) fits_mutex (counted two_bytes mutex_bytes) (λ n. n < 256 ^ 2) (λ es are. let few = are.table.size in omega (arith, few))
    c.args.cursor.now c.args.mutexes.now c.read_many.new.table c.read_many.new.cursor c.requires c.read_many.ensures
