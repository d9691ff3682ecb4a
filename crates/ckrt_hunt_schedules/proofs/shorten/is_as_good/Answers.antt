use Rattle.std.proofs.Common.{sym, ◌∙◌}
use Rattle.ckrt_hunt_schedules.proofs.SameLemmas.{told_decides}
use Rattle.ckrt_hunt_schedules.proofs.shorten.is_as_good.Goals as goal

pub returns-then-eq-clause-same : goal.returns-then-eq-clause-same
returns-then-eq-clause-same c = λ _. (told_decides c.args.run.now.told c.args.told.now).0 (sym c.eq.ensures ∙ c.if-eq.true)
