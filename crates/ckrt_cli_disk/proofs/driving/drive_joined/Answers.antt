use Rattle.std.proofs.Common.{Ok}
use Rattle.ckrt_cli_words.specs.Jobs.{driving_of}
use Rattle.ckrt_cli_disk.proofs.DriveLemmas.{opened_weaker}
use Rattle.ckrt_cli_disk.proofs.driving.drive_joined.Goals as goal

-- the history was opened, and what sources may give then is no more than before
pub returns-clause-drives : goal.returns-clause-drives
returns-clause-drives g c =
    let it = c.in_ok-equipped.equipped in
    let e = c.in_ok-equipped.ensures in
    record {
      found = Ok it;
      asked = g.S.Closes.openings c.equip.new.sources;
      equips = e.equips;
      drives = opened_weaker g.D.Disk (g.S.Sources.gives c.args.sources.now) (g.S.Sources.gives c.equip.new.sources) e.same _ _ (driving_of c.args.job.now) c.args.options _ _ _ it c.drive_opened.ensures.drives;
    }
