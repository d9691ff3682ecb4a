use Rattle.ckrt_witness.proofs.LengthenedLemmas.{longer_met}
use Rattle.ckrt_witness.proofs.lengthened.lengthen.Goals as goal

pub returns : goal.returns
returns g c = λ p file old longer output it durable. longer_met g.D.Disk g.O.Disk p file old longer output it durable
