use Rattle.ckrt_look_clocks.proofs.BehindLemmas.{seen_behind}
use Rattle.ckrt_look_clocks.proofs.laws.seen_behind_seen.Goals as goal

pub returns : goal.returns
returns c = seen_behind
