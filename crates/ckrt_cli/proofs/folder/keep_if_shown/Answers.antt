use Rattle.std.proofs.Common.{◌≡◌, ◌∙◌, true, false, ap, get_or, refl, subst, sym, OnOk, Some}
use Rattle.std.specs.Prelude.{slice_get}
use Rattle.std.proofs.lemmas.Option.{slice_get-get_or}
use Rattle.ckrt_hunt_schedules.specs.Shown.{is_shown_at}
use Rattle.ckrt_cli.specs.Hunting.{KeptNext, KeptOneMore, folder_at, is_kept, reached, sought_in}
use Rattle.ckrt_cli.proofs.folder.keep_if_shown.Goals as goal

-- it has lines, and its run was kept
pub returns-then-is_shown-clause-kept : goal.returns-then-is_shown-clause-kept
returns-then-is_shown-clause-kept g c =
    let at = c.args.at.now in
    let told = at.told in
    let rows = told.rows.now in
    let row = get_or rows c.args.place c.index-told-place.result in
    let there : slice_get rows c.args.place ≡ Some row = slice_get-get_or rows c.args.place c.index-told-place.result c.requires.place in
    let shown : is_kept (folder_at at) c.args.place ≡ true = ap (λ r. is_shown_at told.all_rows rows r) there ∙ sym c.is_shown.ensures ∙ c.if-is_shown.true in
    let old = reached (g.S.Closes.openings c.args.sources.now) (g.W.Write.contents c.args.writer.now) in
    let new = reached (g.S.Closes.openings c.keep_row.new.sources) (g.W.Write.contents c.keep_row.new.writer) in
    subst (λ b. OnOk c.keep_row.result (KeptNext b (λ W a. KeptOneMore g.D.Disk (sought_in c.args.hunt.now told (g.S.Sources.fills c.args.sources.now)) (folder_at at) c.args.place W a) (λ r. r ≡ old) new)) (sym shown) c.keep_row.ensures.kept

-- it has none
pub returns-clause-kept : goal.returns-clause-kept
returns-clause-kept g c =
    let at = c.args.at.now in
    let told = at.told in
    let rows = told.rows.now in
    let row = get_or rows c.args.place c.index-told-place.result in
    let there : slice_get rows c.args.place ≡ Some row = slice_get-get_or rows c.args.place c.index-told-place.result c.requires.place in
    let hidden : is_kept (folder_at at) c.args.place ≡ false = ap (λ r. is_shown_at told.all_rows rows r) there ∙ sym c.is_shown.ensures ∙ c.if-is_shown.false in
    let old = reached (g.S.Closes.openings c.args.sources.now) (g.W.Write.contents c.args.writer.now) in
    subst (λ b. KeptNext b (λ W a. KeptOneMore g.D.Disk (sought_in c.args.hunt.now told (g.S.Sources.fills c.args.sources.now)) (folder_at at) c.args.place W a) (λ r. r ≡ old) old) (sym hidden) refl
