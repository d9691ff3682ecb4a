use Rattle.ckrt_barrier.specs.WellFormed.{IsTable}
use Rattle.ckrt_barrier.proofs.Test.{table_beginning}
use Rattle.ckrt_tables.proofs.Entries.{goes_on}
use Rattle.ckrt_tables.proofs.reading_objects.EntryBarrierRow.append.Goals as goal

pub returns : goal.returns
returns c = goes_on IsTable table_beginning c.args.self c.args.table.now c.append.new.self c.append.result c.append.ensures
