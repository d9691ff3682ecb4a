use Rattle.ckrt_main.proofs.ToldLemmas.{acks_durable}
use Rattle.ckrt_main.proofs.laws.told_is_durable.Goals as goal

pub returns-clause-acks : goal.returns-clause-acks
returns-clause-acks g c = acks_durable g.met.D.Disk.only_now c.args.before.now c.args.after.now c.args.later.now

pub returns-clause-outs : goal.returns-clause-outs
returns-clause-outs g c = λ a b r s service. service.outs
