use Rattle.ckrt_objects.specs.Appended.{IsTableUpTo}
use Rattle.ckrt_mutex.specs.Mutex.{IsTable}
use Rattle.ckrt_mutex.proofs.Appended.{table_beginning}
use Rattle.ckrt_tables.proofs.Entries.{goes_on}
use Rattle.ckrt_tables.proofs.reading_objects.EntryMutexRow.append.Goals as goal

pub returns : goal.returns
returns c = goes_on (IsTableUpTo 256 IsTable) table_beginning c.args.self c.args.table.now c.append.new.self c.append.result c.append.ensures
