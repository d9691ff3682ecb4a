use Rattle.ckrt_look_recording.proofs.RecordedLemmas.{recorded_leads}
use Rattle.ckrt_look_recording.proofs.laws.recordings_lead_on.Goals as goal

pub returns : goal.returns
returns c = recorded_leads
