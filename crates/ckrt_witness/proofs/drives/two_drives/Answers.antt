use Rattle.ckrt_witness.proofs.WitnessLemmas.{two}
use Rattle.ckrt_witness.proofs.drives.two_drives.Goals as goal

pub returns : goal.returns
returns g c = λ p file twice.
    two g.D.Disk g.O.Disk g.met.D.Disk.counts_now g.met.D.Disk.readable g.met.O.Disk.counts_now g.met.O.Disk.readable p file twice
