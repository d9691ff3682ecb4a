use Rattle.std.proofs.Common.{inr}
use Rattle.ckrt_cli.proofs.OpenedLemmas.{read_there}
use Rattle.ckrt_cli.proofs.debug.read_there.Goals as goal

-- what was read is what was opened
pub returns-in-Ok : goal.returns-in-Ok
returns-in-Ok g c = record {
  reads = inr (read_there g.D.Disk c.args.job.now.history c.args.job.now.at (g.S.Sources.opens c.args.sources.now c.args.job.now.disk.now) c.in-Ok.opened _ _ _ _
      c.in-Ok.ensures.disk c.in-Ok.ensures.asked c.read_at_opened.ensures.reads);
}
