use Rattle.std.proofs.Common.{◌≡◌, ◌∙◌, ◌++◌, ◌∷◌, [], sym, rules}
use Rattle.ckrt_look_values.specs.Values.{first_one, found_in}
use Rattle.ckrt_look_values.proofs.FoundLemmas.{noted_again, noted_first, noted_full}
use Rattle.ckrt_look_values.proofs.found.Findings.note.Goals as goal

pub returns-then-count_again : goal.returns-then-count_again
returns-then-count_again c =
    noted_again c.args.it.now (found_in c.args.self.now) c.count_again.new.findings.items
    (sym c.count_again.ensures.again ∙ c.if-count_again.true) c.count_again.ensures.rows

pub returns-then-len-lt-FINDINGS : goal.returns-then-len-lt-FINDINGS
returns-then-len-lt-FINDINGS c =
    let pushed : c.push.new.self.items ≡ c.count_again.new.findings.items ++ first_one c.args.it.now ∷ [] = (let h = c.push.ensures in search rules) in
    noted_first c.args.it.now (found_in c.args.self.now) c.count_again.new.findings.items c.push.new.self.items
    (sym c.count_again.ensures.again ∙ c.if-count_again.false) c.count_again.ensures.rows (search rules) pushed

pub returns : goal.returns
returns c =
    noted_full c.args.it.now (found_in c.args.self.now) c.count_again.new.findings.items c.saturating_add-self.result
    (sym c.count_again.ensures.again ∙ c.if-count_again.false) c.count_again.ensures.rows (search rules) c.saturating_add-self.ensures
