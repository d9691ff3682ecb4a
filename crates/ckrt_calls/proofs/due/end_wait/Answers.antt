use Rattle.std.proofs.Common.{sym, subst}
use Rattle.ckrt_calls.specs.WellFormed.{IsWellFormed}
use Rattle.ckrt_calls.proofs.Ticks.{well_formed_timed_out}
use Rattle.ckrt_calls.proofs.due.end_wait.Goals as goal

pub returns-clause-well_formed : goal.returns-clause-well_formed
returns-clause-well_formed c = subst IsWellFormed (sym c.time_out.ensures) (well_formed_timed_out c.args.wait.now c.args.tables.now c.requires.well_formed c.requires.found c.requires.timed)
