use Rattle.std.proofs.Common.{Ok, Err, ap, refl}
use Rattle.ckrt_cli_disk.proofs.equipping.with_opened.Goals as goal

-- the history was opened, and the disk comes with it
pub returns-in-Ok-clause-equips : goal.returns-in-Ok-clause-equips
returns-in-Ok-clause-equips g c =
    let e = c.in-Ok.ensures in
    record {
      disk = c.open_kept.new.disk;
      made = Ok c.in-Ok.history;
      opens = record { order = e.opening; synced = e.disk; refused = e.refused; opened = e.opened; durable = e.durable; failed = e.failed };
      ends = (refl, refl);
    }

-- it wasn't, and all were closed
pub returns-in-Err-clause-equips : goal.returns-in-Err-clause-equips
returns-in-Err-clause-equips g c =
    let e = c.in-Err.ensures in
    record {
      disk = c.open_kept.new.disk;
      made = Err c.in-Err.unkept;
      opens = record { order = e.opening; synced = e.disk; refused = e.refused; opened = e.opened; durable = e.durable; failed = e.failed };
      ends = (ap Err c.refuse.ensures.told, c.refuse.ensures.closes);
    }
