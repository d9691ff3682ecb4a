use Rattle.ckrt_gdb_history.proofs.ForkLemmas.{ends_there}
use Rattle.ckrt_gdb_history.proofs.laws.forks_end_there.Goals as goal

pub returns : goal.returns
returns c = λ h is. ends_there h.position h.events h.start is
