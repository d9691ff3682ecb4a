use Rattle.ckrt_tables.proofs.Bounds.{encoding_bound, encoding_bound_1}
use Rattle.ckrt_tables.proofs.laws.longest_encoding.Goals as goal

pub returns-clause-any : goal.returns-clause-any
returns-clause-any c = encoding_bound

pub returns-clause-version_1 : goal.returns-clause-version_1
returns-clause-version_1 c = encoding_bound_1
