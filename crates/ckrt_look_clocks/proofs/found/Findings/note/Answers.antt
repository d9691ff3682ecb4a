use Rattle.std.proofs.Common.{◌≡◌, ◌∙◌, ◌++◌, ◌∷◌, [], sym, rules}
use Rattle.ckrt_look_clocks.specs.Detection.{found_in, first_pair}
use Rattle.ckrt_look_clocks.proofs.FoundLemmas.{noted_again, noted_first, noted_full}
use Rattle.ckrt_look_clocks.proofs.found.Findings.note.Goals as goal

pub returns-then-count_again : goal.returns-then-count_again
returns-then-count_again c =
    noted_again c.args.block.now c.args.first.now c.args.second.now (found_in c.args.self.now) c.count_again.new.pairs.items
    (sym c.count_again.ensures.again ∙ c.if-count_again.true) c.count_again.ensures.pairs

pub returns-then-len-lt-PAIRS : goal.returns-then-len-lt-PAIRS
returns-then-len-lt-PAIRS c =
    let pushed : c.push.new.self.items ≡ c.count_again.new.pairs.items ++ first_pair c.args.block.now c.args.first.now c.args.second.now ∷ [] = (let h = c.push.ensures in search rules) in
    noted_first c.args.block.now c.args.first.now c.args.second.now (found_in c.args.self.now) c.count_again.new.pairs.items c.push.new.self.items
    (sym c.count_again.ensures.again ∙ c.if-count_again.false) c.count_again.ensures.pairs (search rules) pushed

pub returns : goal.returns
returns c =
    noted_full c.args.block.now c.args.first.now c.args.second.now (found_in c.args.self.now) c.count_again.new.pairs.items c.saturating_add-self.result
    (sym c.count_again.ensures.again ∙ c.if-count_again.false) c.count_again.ensures.pairs (search rules) c.saturating_add-self.ensures
