use Rattle.std.proofs.Common.{rules}
use Rattle.ckrt_look_profile.proofs.OnwardLemmas.{onward_counted}
use Rattle.ckrt_look_profile.proofs.counts.Counts.onward.Goals as goal

pub returns-clause-some : goal.returns-clause-some
returns-clause-some c = onward_counted c.args.count c.args.thread c.args.pc c.args.self.now _ (search rules) (search rules) (search rules)
