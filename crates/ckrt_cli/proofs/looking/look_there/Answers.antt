use Rattle.std.proofs.Common.{ap, inr}
use Rattle.ckrt_cli_words.specs.Jobs.{disk_stretch_of}
use Rattle.ckrt_cli_reports.specs.Outside.{outside}
use Rattle.ckrt_cli.proofs.OpenedLemmas.{looked_there}
use Rattle.ckrt_cli.proofs.looking.look_there.Goals as goal

-- what was told of is what was opened
pub returns-in-Ok : goal.returns-in-Ok
returns-in-Ok g c = record {
  looks = λ left.
      inr (looked_there g.D.Disk c.args.job.now.history (disk_stretch_of c.args.job.now) (g.S.Sources.opens c.args.sources.now c.args.job.now.disk.now) (g.T.Telling.Tells c.args.telling.now) c.in-Ok.opened _ _ _ _
      c.in-Ok.ensures.disk (ap (λ o. outside o (g.W.Write.contents c.args.writer.now) left) c.in-Ok.ensures.asked) (c.look_at_opened.ensures.looks left));
}
