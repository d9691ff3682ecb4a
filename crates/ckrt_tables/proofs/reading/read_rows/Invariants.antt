use Rattle.ckrt_tables.proofs.RowsRead.{HasRead}
use Rattle.ckrt_tables.proofs.reading.read_rows.Given as goal

abbrev pub invariant-loop : goal.invariant-loop
invariant-loop g l = HasRead g.R.Row.LeadsTo g.R.Row.fits g.R.Row.encoding l.count l.counter l.fn.cursor l.fn.table l.table l.cursor
