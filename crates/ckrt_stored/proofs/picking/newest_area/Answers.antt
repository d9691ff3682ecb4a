use Rattle.std.proofs.Common.{rules}
use Rattle.ckrt_stored.proofs.picking.newest_area.Goals as goal

pub returns-in_err-area-clause-exact : goal.returns-in_err-area-clause-exact
returns-in_err-area-clause-exact c = search rules

pub returns-clause-exact : goal.returns-clause-exact
returns-clause-exact c = search rules
