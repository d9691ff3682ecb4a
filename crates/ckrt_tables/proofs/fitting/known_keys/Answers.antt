use Rattle.std.proofs.Common.{◌≡◌, true, length, sym, ap, ◌∙◌, arith}
use Rattle.std.specs.List.{list_all}
use Rattle.std.proofs.lemmas.Bool.Decides.{nat_tests}
use Rattle.ckrt_tables.specs.Savable.{if_there, is_word}
use Rattle.ckrt_tables.proofs.AllFit.{all_true}
use Rattle.ckrt_tables.proofs.fitting.known_keys.Goals as goal

pub known_all-requires : goal.known_all-requires
known_all-requires c = all_true c.destructors.result.now

pub returns : goal.returns
returns c =
    let size : length c.args.keys.now.destructors ≡ 32 = ap length (sym c.destructors.ensures.keys) ∙ c.destructors.ensures.size in
    let words : list_all (if_there is_word) c.args.keys.now.destructors ≡ true = ap (list_all (if_there is_word)) (sym c.destructors.ensures.keys) ∙ c.known_all.ensures in
    grind (arith, nat_tests, size, words)
