use Rattle.ckrt_cli.proofs.BeforeLemmas.{by_noting, by_reading, by_recovering, lengthened_through}
use Rattle.ckrt_cli.proofs.laws.disks_are_left_before_drives.Goals as goal

pub returns : goal.returns
returns g c = record {
  reading = λ start end left failed read honest there. by_reading g.D.Disk g.met.D.Disk.only_now start end left failed read honest there;
  noting = λ schedule start end left answer notes honest there. by_noting g.D.Disk g.met.D.Disk.only_now schedule start end left answer notes honest there;
  recovering = λ start end left failed read honest there. by_recovering g.D.Disk g.met.D.Disk.only_now start end left failed read honest there;
  through = λ old mid left first second. lengthened_through g.D.Disk old mid left first second;
}
