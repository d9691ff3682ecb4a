use Rattle.std.proofs.Common.{sym}
use Rattle.ckrt_witness.proofs.FaultLemmas.{refuses}
use Rattle.ckrt_witness.proofs.faults.is_refused.Goals as goal

pub returns : goal.returns
returns c = λ is. let long = c.is_too_long.ensures is in refuses c.args.line.now c.args.image.now c.args.config.now c.in-Err._why (sym c.in-Err.ensures.value) long.0 long.1
