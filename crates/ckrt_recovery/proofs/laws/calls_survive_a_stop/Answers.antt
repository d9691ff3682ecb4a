use Rattle.ckrt_recovery.proofs.ReachedLemmas.{survives}
use Rattle.ckrt_recovery.proofs.laws.calls_survive_a_stop.Goals as goal

pub returns : goal.returns
returns g c = survives c.args.before.now c.args.after.now
