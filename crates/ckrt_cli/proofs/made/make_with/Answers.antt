use Rattle.std.proofs.Common.{◌≡◌, inr}
use Rattle.ckrt_cli.proofs.OpenedLemmas.{made_there}
use Rattle.ckrt_cli.proofs.made.make_with.Goals as goal

pub returns-in-Ok : goal.returns-in-Ok
returns-in-Ok g c = record {
  makes = inr (made_there g.D.Disk c.args.origin (λ it. it ≡ c.args.source) ((g.S.Sources.gives c.args.sources.now).Outputs c.args.path.now) c.in-Ok.output _ _ _ _
      c.in-Ok.ensures.output c.in-Ok.ensures.asked c.make_opened.ensures.makes);
}
