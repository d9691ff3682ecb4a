use Rattle.std.proofs.Common.{[]}
use Rattle.ckrt_drive.specs.Together.{past}
use Rattle.ckrt_drive.proofs.TakenLemmas.{are_told, formatted_fed, give_file}
use Rattle.ckrt_drive.proofs.many_drives.drives_give_the_file.Goals as goal

pub returns-clause-formatted : goal.returns-clause-formatted
returns-clause-formatted g c = λ file p old made. formatted_fed g.D.Disk file p old c.args.disk.now made

pub returns-clause-told : goal.returns-clause-told
returns-clause-told g c = λ file h v more same stand told behind keep. are_told file h v more same stand told behind keep

pub returns-clause-given : goal.returns-clause-given
returns-clause-given g c = λ file p old v more same stand told behind keep. give_file file (past p old [] []) v more tt same stand told behind keep
