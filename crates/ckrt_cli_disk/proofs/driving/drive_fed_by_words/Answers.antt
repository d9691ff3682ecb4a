use Rattle.std.proofs.Common.{Ok}
use Rattle.ckrt_cli_words.specs.Jobs.{driving_of}
use Rattle.ckrt_cli_disk.proofs.DriveLemmas.{noted_weaker}
use Rattle.ckrt_cli_disk.proofs.driving.drive_fed_by_words.Goals as goal

-- the input was found, and what sources may give then is no more than before
pub returns-clause-drives : goal.returns-clause-drives
returns-clause-drives g c =
    let it = c.in_ok-supplied.supplied in
    let e = c.in_ok-supplied.ensures in
    record {
      found = Ok it;
      asked = g.S.Closes.openings c.supply.new.sources;
      supplies = e.supplies;
      drives = noted_weaker g.D.Disk (g.S.Sources.gives c.args.sources.now) (g.S.Sources.gives c.supply.new.sources) e.same _ _ (driving_of c.args.job.now) c.args.options _ _ _ it c.drive_noted.ensures.drives;
    }
