use Rattle.std.proofs.Common.{◌∙◌, ap, subst, Bool, List, Ok}
use Rattle.std.specs.Prelude.{option_map}
use Rattle.ckrt_stored.specs.declared.config.Config.{Config}
use Rattle.ckrt_hunt_schedules.specs.declared.row.Row.{Row}
use Rattle.ckrt_hunt_schedules.specs.Table.{is_closer}
use Rattle.ckrt_hunt_schedules.specs.Tallies.{hunted_of}
use Rattle.ckrt_stored.specs.Layout.{size_needed}
use Rattle.ckrt_cli.specs.Hunting.{KeepsAt, answer_of, place_of, reached, sought_by}
use Rattle.ckrt_cli.proofs.hunting.hunt_image.Goals as goal

-- the table was written, and then what is told of what was kept
pub returns-in-Ok : goal.returns-in-Ok
returns-in-Ok g c =
    let job = c.args.job.now in
    let guest = c.args.hunted.now.image.now in
    let input = c.args.hunted.now.input in
    let asked = c.args.hunted.now.asked in
    let fills = g.S.Sources.fills c.args.sources.now in
    let kept = c.keep_if_asked-kept.result in
    let table = g.W.Write.contents c.tell.new.writer in
    let old = reached (g.S.Closes.openings c.args.sources.now) table in
    let new = reached (g.S.Closes.openings c.keep_if_asked-kept.new.sources) (g.W.Write.contents c.keep_if_asked-kept.new.writer) in
    let path = option_map (λ p. p.now) job.keep in
    let drawn = subst (λ (b : Bool). KeepsAt g.D.Disk (sought_by (hunted_of guest asked.shape input) asked.seeds.first b c.config_of.result guest (λ p. fills p (size_needed c.config_of.result))) old new kept (place_of path asked.all_rows c.rows.result.now)) c.is_closer.ensures c.keep_if_asked-kept.ensures in
    let by_rows = subst (λ (rows : List Row). KeepsAt g.D.Disk (sought_by (hunted_of guest asked.shape input) asked.seeds.first (is_closer asked.look) c.config_of.result guest (λ p. fills p (size_needed c.config_of.result))) old new kept (place_of path asked.all_rows rows)) c.rows.ensures drawn in
    let keeps = subst (λ (config : Config). KeepsAt g.D.Disk (sought_by (hunted_of guest asked.shape input) asked.seeds.first (is_closer asked.look) config guest (λ p. fills p (size_needed config))) old new kept (place_of path asked.all_rows c.in-Ok.told.done.outcomes.rows.items)) c.config_of.ensures by_rows in
    record {
      hunts = (
        Ok c.in-Ok.told,
        table,
        c.in-Ok.ensures,
        record {
          kept = kept;
          keeps = keeps;
          gives = c.answer_of.ensures ∙ ap (answer_of kept) c.verdict.ensures;
        },
      );
    }
