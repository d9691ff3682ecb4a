use Rattle.ckrt_machine.proofs.Fixed.{same_harts_after, same_mark_after}
use Rattle.ckrt_machine.proofs.laws.events_keep_harts_and_keys.Goals as goal

pub returns-clause-harts : goal.returns-clause-harts
returns-clause-harts c = same_harts_after

pub returns-clause-keys : goal.returns-clause-keys
returns-clause-keys c = same_mark_after
