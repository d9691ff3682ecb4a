use Rattle.ckrt_witness.proofs.closed_inspecting.listed.Goals as goal

pub returns : goal.returns
returns g c = c.in-Ok.ensures (λ _. tt)
