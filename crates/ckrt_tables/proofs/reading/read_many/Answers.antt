use Rattle.ckrt_tables.proofs.RowsRead.{reads_many}
use Rattle.ckrt_tables.proofs.reading.read_many.Goals as goal

pub returns : goal.returns
returns g c =
    reads_many g.R.Row.LeadsTo g.R.Row.fits g.R.Row.encoding c.args.cursor.now c.half-count.new.self c.read_rows.new.cursor c.half-count.result c.from.result c.args.table.now c.read_rows.new.table c.from.ensures c.half-count.ensures c.read_rows.ensures
