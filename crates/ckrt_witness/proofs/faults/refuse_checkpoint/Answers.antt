use Rattle.std.proofs.Common.{rules, ◌≡◌, Err}
use Rattle.ckrt_recovery.specs.declared.fault.CommitFault.TheVariants.{GenerationsUsed}
use Rattle.ckrt_witness.proofs.FaultLemmas.{refuses_checkpoint}
use Rattle.ckrt_witness.proofs.faults.refuse_checkpoint.Goals as goal

pub returns : goal.returns
returns g c = λ honest.
    let used : c.checkpoint.result ≡ Err GenerationsUsed = search rules in
    refuses_checkpoint c.in-Ok.session c.checkpoint.new.self c.checkpoint.result used c.checkpoint.ensures.checkpoints honest
