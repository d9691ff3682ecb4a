use Rattle.std.proofs.Common.{inr}
use Rattle.ckrt_cli.proofs.OpenedLemmas.{with_there}
use Rattle.ckrt_cli.proofs.made.make_path.Goals as goal

pub returns-in-Ok : goal.returns-in-Ok
returns-in-Ok g c = record {
  makes = inr (with_there g.D.Disk c.args.origin (g.S.Sources.opens c.args.sources.now c.args.source.now) c.in-Ok.opened c.args.path.now _ _
      c.in-Ok.ensures.disk (c.in-Ok.ensures.same.others.outputs c.args.path.now) _ _ _ _
      c.in-Ok.ensures.asked c.make_with.ensures.makes);
}
