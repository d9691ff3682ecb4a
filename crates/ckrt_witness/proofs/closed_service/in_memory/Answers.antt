use Rattle.ckrt_witness.proofs.closed_service.in_memory.Goals as goal

pub returns : goal.returns
returns g c = record { serves = c.served.ensures; refuses = c.refused.ensures }
