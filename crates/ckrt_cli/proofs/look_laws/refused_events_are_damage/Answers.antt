use Rattle.ckrt_cli.proofs.look_laws.refused_events_are_damage.Goals as goal

pub returns : goal.returns
returns c = λ image newer parts refused. parts.damaged (λ accepted. refused (record { accepted = accepted; through = tt }))
