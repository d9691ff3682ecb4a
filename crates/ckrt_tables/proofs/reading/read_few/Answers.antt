use Rattle.ckrt_tables.proofs.RowsRead.{reads_few}
use Rattle.ckrt_tables.proofs.reading.read_few.Goals as goal

pub returns : goal.returns
returns g c =
    reads_few g.R.Row.LeadsTo g.R.Row.fits g.R.Row.encoding c.args.cursor.now c.byte-count.new.self c.read_rows.new.cursor c.byte-count.result c.from.result c.args.table.now c.read_rows.new.table c.from.ensures c.byte-count.ensures c.read_rows.ensures
