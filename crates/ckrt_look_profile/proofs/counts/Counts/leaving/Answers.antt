use Rattle.std.proofs.Common.{◌+◌, rules, arith}
use Rattle.ckrt_look_profile.proofs.OnwardLemmas.{leaving_counted}
use Rattle.ckrt_look_profile.proofs.counts.Counts.leaving.Goals as goal

pub returns-clause-some : goal.returns-clause-some
returns-clause-some c = leaving_counted c.args.count (c.args.count + 1) c.args.thread c.args.pc c.args.turn c.args.self.now _ (omega arith) (search rules) (search rules) (search rules)
