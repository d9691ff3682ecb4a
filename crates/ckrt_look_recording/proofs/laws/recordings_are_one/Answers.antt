use Rattle.ckrt_look_recording.proofs.RecordedLemmas.{recorded_once}
use Rattle.ckrt_look_recording.proofs.laws.recordings_are_one.Goals as goal

pub returns : goal.returns
returns c = recorded_once
