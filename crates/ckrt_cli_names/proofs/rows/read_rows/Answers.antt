use Rattle.std.proofs.Common.{◌≡◌, ◌≤◌, ◌∷◌, [], ◌++◌, rules, sym, subst, List}
use Rattle.ckrt_cli_names.specs.declared.rows.Row.{Row}
use Rattle.ckrt_cli_names.specs.Rows.{IsInOrder}
use Rattle.ckrt_cli_names.proofs.RowLemmas.{EndBy, ends_more, order_more}
use Rattle.ckrt_cli_names.proofs.rows.read_rows.Goals as goal

pub loop-preserved : goal.loop-preserved
loop-preserved c =
    let i = c.loop.invariant in
    let row = c.in-Some-read_row.row in
    let pushed : c.push.new.self.items ≡ c.loop.rows.items ++ row ∷ [] = search rules in
    let begins : c.loop.last ≤ row.begin = search rules in
    let rises : row.begin ≤ row.end = search rules in
    let order : IsInOrder c.push.new.self.items = let P : List Row → Type 0 = λ rows. IsInOrder rows in subst P (sym pushed) (order_more c.loop.rows.items row c.loop.last i.order i.ends begins) in
    let ends : EndBy row.end c.push.new.self.items = let Q : List Row → Type 0 = λ rows. EndBy row.end rows in subst Q (sym pushed) (ends_more c.loop.rows.items row c.loop.last i.ends begins rises) in
    record { order = order; ends = ends }
