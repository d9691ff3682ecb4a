use Rattle.ckrt_history.proofs.KeptLemmas.{goes_on_together, keeps_on}
use Rattle.ckrt_history.proofs.laws.drives_keep_histories.Goals as goal

pub returns-clause-keep : goal.returns-clause-keep
returns-clause-keep g c = keeps_on g.D.Disk g.O.Disk g.K.Disk

pub returns-clause-together : goal.returns-clause-together
returns-clause-together g c = goes_on_together g.D.Disk g.O.Disk g.K.Disk g.met.D.Disk.only_now g.met.K.Disk.only_now
