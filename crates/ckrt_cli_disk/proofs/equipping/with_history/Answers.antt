use Rattle.std.proofs.Common.{inr}
use Rattle.ckrt_cli_disk.proofs.equipping.with_history.Goals as goal

-- the file that was opened is the one that has the history
pub returns-in-Ok-clause-equips : goal.returns-in-Ok-clause-equips
returns-in-Ok-clause-equips g c =
    let e = c.in-Ok.ensures in
    inr (record { output = c.in-Ok.opened; is_opened = e.output; equips = rw e.asked at c.with_opened.ensures.equips })
