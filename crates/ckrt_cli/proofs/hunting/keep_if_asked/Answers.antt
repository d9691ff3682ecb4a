use Rattle.std.proofs.Common.{◌≡◌, ◌∙◌, true, false, cond, ap, option_map, subst, sym, Some}
use Rattle.ckrt_hunt_schedules.specs.Tallies.{hunted_of}
use Rattle.ckrt_cli.specs.Hunting.{KeepsAt, Place, in_folder, is_folder, on_disk, place_of, reached, sought_in}
use Rattle.ckrt_cli.proofs.hunting.keep_if_asked.Goals as goal

-- in the folder
pub returns-then-is_folder : goal.returns-then-is_folder
returns-then-is_folder g c =
    let told = c.args.told in
    let path = c.in-Some.path.now in
    let rows = told.rows.now in
    let sought = sought_in (hunted_of told.image.now told.shape told.input) told (g.S.Sources.fills c.args.sources.now) in
    let old = reached (g.S.Closes.openings c.args.sources.now) (g.W.Write.contents c.args.writer.now) in
    let new = reached (g.S.Closes.openings c.keep_in_folder.new.sources) (g.W.Write.contents c.keep_in_folder.new.writer) in
    let there : is_folder path ≡ true = sym c.is_folder.ensures ∙ c.if-is_folder.true in
    let at : place_of (Some path) told.all_rows rows ≡ in_folder (record { path = path; rows = rows; all_rows = told.all_rows }) = ap (λ b. cond b (in_folder (record { path = path; rows = rows; all_rows = told.all_rows })) (on_disk path)) there in
    subst (λ o. KeepsAt g.D.Disk sought old new c.keep_in_folder.result (place_of (option_map (λ p. p.now) o) told.all_rows rows)) (sym c.in-Some.is)
    (subst (λ (p : Place). KeepsAt g.D.Disk sought old new c.keep_in_folder.result p) (sym at) c.keep_in_folder.ensures)

-- on the disk
pub returns-else-is_folder : goal.returns-else-is_folder
returns-else-is_folder g c =
    let told = c.args.told in
    let path = c.in-Some.path.now in
    let rows = told.rows.now in
    let sought = sought_in (hunted_of told.image.now told.shape told.input) told (g.S.Sources.fills c.args.sources.now) in
    let old = reached (g.S.Closes.openings c.args.sources.now) (g.W.Write.contents c.args.writer.now) in
    let new = reached (g.S.Closes.openings c.keep_first.new.sources) (g.W.Write.contents c.keep_first.new.writer) in
    let there : is_folder path ≡ false = sym c.is_folder.ensures ∙ c.if-is_folder.false in
    let at : place_of (Some path) told.all_rows rows ≡ on_disk path = ap (λ b. cond b (in_folder (record { path = path; rows = rows; all_rows = told.all_rows })) (on_disk path)) there in
    subst (λ o. KeepsAt g.D.Disk sought old new c.keep_first.result (place_of (option_map (λ p. p.now) o) told.all_rows rows)) (sym c.in-Some.is)
    (subst (λ (p : Place). KeepsAt g.D.Disk sought old new c.keep_first.result p) (sym at) c.keep_first.ensures)
