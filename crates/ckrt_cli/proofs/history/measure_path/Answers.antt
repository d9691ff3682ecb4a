use Rattle.std.proofs.Common.{inr}
use Rattle.ckrt_cli.proofs.OpenedLemmas.{measured_there}
use Rattle.ckrt_cli.proofs.history.measure_path.Goals as goal

pub returns-in-Ok : goal.returns-in-Ok
returns-in-Ok g c = record {
  measures = inr (measured_there g.D.Disk (g.S.Sources.opens c.args.sources.now c.args.path.now) c.in-Ok.history _ _ _ _
      c.in-Ok.ensures.disk c.in-Ok.ensures.asked c.measure_opened.ensures.measures);
}
