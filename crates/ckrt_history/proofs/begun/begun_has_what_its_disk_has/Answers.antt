use Rattle.ckrt_history.proofs.BegunLemmas.{begun_has_just, begun_has_recording}
use Rattle.ckrt_history.proofs.begun.begun_has_what_its_disk_has.Goals as goal

pub returns-clause-just : goal.returns-clause-just
returns-clause-just c = begun_has_just

pub returns-clause-recording : goal.returns-clause-recording
returns-clause-recording c = begun_has_recording
