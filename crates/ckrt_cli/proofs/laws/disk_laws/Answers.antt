use Rattle.ckrt_cli.proofs.laws.disk_laws.Goals as goal

pub returns-clause-only_now : goal.returns-clause-only_now
returns-clause-only_now g c = λ disk image honest left. g.met.D.Disk.only_now disk image honest left

pub returns-clause-readable : goal.returns-clause-readable
returns-clause-readable g c = λ disk honest. g.met.D.Disk.readable disk honest

pub returns-clause-counts_now : goal.returns-clause-counts_now
returns-clause-counts_now g c = λ disk t image honest earlier may. g.met.D.Disk.counts_now disk t image honest earlier may
