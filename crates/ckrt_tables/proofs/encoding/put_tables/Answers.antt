use Rattle.ckrt_tables.proofs.Few.{few}
use Rattle.ckrt_tables.proofs.encoding.put_tables.Goals as goal

pub put_parts-requires-clause-few : goal.put_parts-requires-clause-few
put_parts-requires-clause-few c = few c.args.tables.now c.requires.well_formed
