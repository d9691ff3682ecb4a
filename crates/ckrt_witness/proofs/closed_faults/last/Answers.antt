use Rattle.ckrt_witness.proofs.closed_faults.last.Goals as goal

pub returns : goal.returns
returns g c = c.in-Some.ensures tt
