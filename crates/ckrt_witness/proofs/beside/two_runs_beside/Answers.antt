use Rattle.ckrt_witness.proofs.BesideLemmas.{two_beside}
use Rattle.ckrt_witness.proofs.beside.two_runs_beside.Goals as goal

pub returns : goal.returns
returns g c = λ p twice.
    two_beside g.D.Disk g.O.Disk g.K.Disk g.met.D.Disk.counts_now g.met.D.Disk.readable g.met.O.Disk.counts_now g.met.O.Disk.readable g.met.K.Disk.counts_now g.met.K.Disk.readable p twice
