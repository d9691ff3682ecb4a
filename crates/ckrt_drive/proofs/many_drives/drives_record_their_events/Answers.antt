use Rattle.ckrt_drive.proofs.RecordingLemmas.{all_recorded, formatted_recorded}
use Rattle.ckrt_drive.proofs.many_drives.drives_record_their_events.Goals as goal

pub returns-clause-formatted : goal.returns-clause-formatted
returns-clause-formatted g c = λ p old made. formatted_recorded g.D.Disk p old c.args.disk.now made

pub returns-clause-many : goal.returns-clause-many
returns-clause-many g c = λ h v more stand behind keep. all_recorded h v more stand behind keep
