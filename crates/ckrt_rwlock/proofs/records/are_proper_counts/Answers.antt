use Rattle.std.proofs.Common.{arith}
use Rattle.ckrt_rwlock.proofs.Counts.{are_proper}
use Rattle.ckrt_rwlock.proofs.records.are_proper_counts.Goals as goal

pub returns : goal.returns
returns c = are_proper c.args.counts.now c.requires (λ i. let fits = c.type_inv.counts i in omega (arith, fits))
