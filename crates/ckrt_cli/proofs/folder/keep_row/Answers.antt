use Rattle.std.proofs.Common.{◌≡◌, get_or, inr, refl, subst, Some, Ok, Err}
use Rattle.std.specs.Prelude.{slice_get}
use Rattle.std.proofs.lemmas.Option.{slice_get-get_or}
use Rattle.ckrt_stored.specs.Layout.{size_needed}
use Rattle.ckrt_hunt_schedules.specs.Table.{unkept_text}
use Rattle.ckrt_cli.specs.Hunting.{KeepsFound, TellsUnkept, reached, sought_in, sought_of}
use Rattle.ckrt_cli.proofs.KeepLemmas.{found_weaker}
use Rattle.ckrt_cli.proofs.folder.keep_row.Goals as goal

-- its run was kept
pub returns-in-Ok-keep_run-clause-kept : goal.returns-in-Ok-keep_run-clause-kept
returns-in-Ok-keep_run-clause-kept g c =
    let told = c.args.at.now.told in
    let rows = told.rows.now in
    let row = get_or rows c.args.place c.index-at-place.result in
    let there : slice_get rows c.args.place ≡ Some row = slice_get-get_or rows c.args.place c.index-at-place.result c.requires.place in
    let fills = g.S.Sources.fills c.args.sources.now in
    let old = reached (g.S.Closes.openings c.args.sources.now) (g.W.Write.contents c.args.writer.now) in
    let new = reached (g.S.Closes.openings c.keep_run.new.sources) (g.W.Write.contents c.keep_run.new.writer) in
    record {
      before = old;
      was_so = refl;
      row = row;
      is_row = there;
      keeps = subst (λ p. KeepsFound g.D.Disk (sought_of (sought_in c.args.hunt.now told fills) row) p old new (Ok tt)) c.in-Ok.ensures
          (found_weaker g.D.Disk c.args.hunt.now row.first told.as_drawn told.config told.image.now (λ p. fills p (size_needed told.config)) (λ p disk. Unit {0}) c.in-Ok.path.now old new (Ok tt) (λ p disk is. tt) c.in-Ok-keep_run.ensures.kept);
    }

-- it wasn't, and that is told
pub returns-in-Err-keep_run-clause-stops : goal.returns-in-Err-keep_run-clause-stops
returns-in-Err-keep_run-clause-stops g c =
    let told = c.args.at.now.told in
    let rows = told.rows.now in
    let row = get_or rows c.args.place c.index-at-place.result in
    let there : slice_get rows c.args.place ≡ Some row = slice_get-get_or rows c.args.place c.index-at-place.result c.requires.place in
    let fills = g.S.Sources.fills c.args.sources.now in
    let why = c.in-Err-keep_run.why in
    let has = g.W.Write.contents in
    let old = reached (g.S.Closes.openings c.args.sources.now) (has c.args.writer.now) in
    let failed = reached (g.S.Closes.openings c.keep_run.new.sources) (has c.keep_run.new.writer) in
    inr (
      record {
        failed = failed;
        row = row;
        is_row = there;
        why = why;
        fails = subst (λ p. KeepsFound g.D.Disk (sought_of (sought_in c.args.hunt.now told fills) row) p old failed (Err why)) c.in-Ok.ensures
            (found_weaker g.D.Disk c.args.hunt.now row.first told.as_drawn told.config told.image.now (λ p. fills p (size_needed told.config)) (λ p disk. Unit {0}) c.in-Ok.path.now old failed (Err why) (λ p disk is. tt) c.in-Err-keep_run.ensures.kept);
        result = Err c.tell_unkept.result;
        unasked = refl;
        tells = subst (λ p. TellsUnkept (unkept_text row.first p) why (has c.keep_run.new.writer) (has c.tell_unkept.new.writer) (Err c.tell_unkept.result)) c.in-Ok.ensures c.tell_unkept.ensures;
      },
      refl,
    )
