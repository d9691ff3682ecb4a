use Rattle.ckrt_witness.proofs.closed_stopping.by_input.Goals as goal

pub returns : goal.returns
returns g c = λ p start. c.in-Some.ensures (λ _. tt) (λ _. tt) p start
