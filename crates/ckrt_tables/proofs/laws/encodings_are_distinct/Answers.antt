use Rattle.ckrt_tables.proofs.Distinct.{distinct}
use Rattle.ckrt_tables.proofs.laws.encodings_are_distinct.Goals as goal

pub returns : goal.returns
returns c = distinct
