use Rattle.std.proofs.Common.{ℕ, inr, subst}
use Rattle.ckrt_stored.specs.Layout.{size_needed}
use Rattle.ckrt_hunt_schedules.specs.Tallies.{Hunted, hunted_of}
use Rattle.ckrt_cli.specs.Hunting.{KeepsFound, reached, sought_by}
use Rattle.ckrt_cli.proofs.found.keep_first.Goals as goal

-- there was room
pub returns : goal.returns
returns g c =
    let at = c.args.at.now in
    let told = at.told in
    let fills = g.S.Sources.fills c.args.sources.now in
    let old = reached (g.S.Closes.openings c.args.sources.now) (g.W.Write.contents c.args.writer.now) in
    let new = reached (g.S.Closes.openings c.keep_run.new.sources) (g.W.Write.contents c.keep_run.new.writer) in
    let kept = subst (λ (h : Hunted). KeepsFound g.D.Disk (sought_by h c.seeds_of_first-seeds.result.first told.as_drawn told.config told.image.now (λ p. fills p (size_needed told.config))) at.path.now old new c.keep_run.result) c.in-Ok.ensures.hunted c.keep_run.ensures.kept in
    inr (subst (λ (n : ℕ). KeepsFound g.D.Disk (sought_by (hunted_of told.image.now told.shape told.input) n told.as_drawn told.config told.image.now (λ p. fills p (size_needed told.config))) at.path.now old new c.keep_run.result) c.seeds_of_first-seeds.ensures kept)
