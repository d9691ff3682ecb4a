use Rattle.std.proofs.Common.{◌<◌, arith}
use Rattle.ckrt_objects.specs.Appended.{IsTableUpTo}
use Rattle.ckrt_rwlock.specs.RwLock.{IsTable}
use Rattle.ckrt_tables.specs.Records.{counted, one_byte, rwlock_bytes}
use Rattle.ckrt_tables.specs.Savable.{fits_rwlock}
use Rattle.ckrt_tables.proofs.Entries.{entries_found}
use Rattle.ckrt_tables.proofs.reading_objects.read_rwlocks.Goals as goal

pub returns : goal.returns
returns c =
    entries_found (IsTableUpTo 64 IsTable) fits_rwlock (counted one_byte rwlock_bytes) (λ n. n < 256) (λ es are. let few = are.table.size in omega (arith, few))
    c.args.cursor.now c.args.rwlocks.now c.read_few.new.table c.read_few.new.cursor c.requires c.read_few.ensures
