use Rattle.ckrt_look_recording.proofs.RecordedLemmas.{recorded_leads}
use Rattle.ckrt_cli.proofs.look_laws.recorded_events_are_accepted.Goals as goal

pub returns : goal.returns
returns c = λ image r has. record { accepted = (recorded_leads image r has.whole has has.recovers).accepted; through = tt }
