use Rattle.ckrt_drive.proofs.RecordedLemmas.{begins_recorded, recorded_as_recovered}
use Rattle.ckrt_drive.proofs.recording_laws.images_have_recorded.Goals as goal

pub returns : goal.returns
returns c = record { begins = begins_recorded; one = recorded_as_recovered }
