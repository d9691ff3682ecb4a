use Rattle.ckrt_tables.proofs.AllFit.{fresh_savable, fresh_savable_1}
use Rattle.ckrt_tables.proofs.laws.fresh_is_savable.Goals as goal

pub returns-clause-version_2 : goal.returns-clause-version_2
returns-clause-version_2 c = fresh_savable

pub returns-clause-version_1 : goal.returns-clause-version_1
returns-clause-version_1 c = fresh_savable_1
