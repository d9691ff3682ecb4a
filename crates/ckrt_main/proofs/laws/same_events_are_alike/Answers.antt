use Rattle.ckrt_main.proofs.ToldLemmas.{same_events}
use Rattle.ckrt_main.proofs.laws.same_events_are_alike.Goals as goal

pub returns : goal.returns
returns g c = λ p events x y. same_events p events c.args.one.now c.args.other.now x y
