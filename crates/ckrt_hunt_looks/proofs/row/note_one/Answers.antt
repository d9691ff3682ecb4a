use Rattle.std.proofs.Common.{◌≡◌, ◌∙◌, ◌++◌, ◌∷◌, [], sym, rules}
use Rattle.ckrt_hunt_looks.specs.Rows.{first_row}
use Rattle.ckrt_hunt_looks.proofs.RowLemmas.{found_first, found_full}
use Rattle.ckrt_hunt_looks.proofs.row.note_one.Goals as goal

pub returns-then-len-lt-FOUND_ROWS-clause-rows : goal.returns-then-len-lt-FOUND_ROWS-clause-rows
returns-then-len-lt-FOUND_ROWS-clause-rows g c =
    let pushed : c.push.new.self.items ≡ c.count_again.new.rows.items ++ first_row c.args.seed c.args.found.now ∷ [] = (let h = c.push.ensures in search rules) in
    found_first c.args.seed g.F.Notable.kind c.args.found.now c.args.rows.now.items c.count_again.new.rows.items c.push.new.self.items
    (sym c.count_again.ensures.again ∙ c.if-count_again.false) c.count_again.ensures.rows (search rules) pushed

pub returns-else-len-lt-FOUND_ROWS-clause-rows : goal.returns-else-len-lt-FOUND_ROWS-clause-rows
returns-else-len-lt-FOUND_ROWS-clause-rows g c =
    found_full c.args.seed g.F.Notable.kind c.args.found.now c.args.rows.now.items c.count_again.new.rows.items
    (sym c.count_again.ensures.again ∙ c.if-count_again.false) c.count_again.ensures.rows (search rules)
