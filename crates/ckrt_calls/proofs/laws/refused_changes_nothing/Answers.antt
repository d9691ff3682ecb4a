use Rattle.ckrt_calls.proofs.Refused as refused
use Rattle.ckrt_calls.proofs.laws.refused_changes_nothing.Goals as goal

pub returns : goal.returns
returns c = refused.refused_changes_nothing
