use Rattle.ckrt_tables.proofs.RowsRead.{reads_more, reads_all}
use Rattle.ckrt_tables.proofs.reading.read_rows.Goals as goal

pub loop-preserved : goal.loop-preserved
loop-preserved g c =
    reads_more g.R.Row.LeadsTo g.R.Row.fits g.R.Row.encoding c.args.count c.loop.counter c.args.cursor.now c.args.table.now c.loop.table c.append.new.table c.loop.cursor c.read-row.new.cursor c.read-row.result c.loop-test.true c.loop.invariant c.read-row.ensures c.append.ensures

pub returns : goal.returns
returns g c = reads_all g.R.Row.LeadsTo g.R.Row.fits g.R.Row.encoding c.args.count c.loop.counter c.args.cursor.now c.args.table.now c.loop.table c.loop.cursor c.loop-test.false c.loop.invariant
