use Rattle.std.proofs.Common.{◌<◌, ◌^◌, get_or, arith}
use Rattle.std.proofs.lemmas.Bool.Decides.{nat_tests}
use Rattle.ckrt_tables.specs.Savable.{is_word}
use Rattle.ckrt_tables.proofs.AllFit.{all_from}
use Rattle.ckrt_tables.proofs.fitting.known_words.Goals as goal

pub returns : goal.returns
returns c =
    all_from is_word c.args.words.now 0 (λ i within. let small : get_or c.args.words.now i 0 < 256 ^ 4 = omega (arith, within, c.type_inv.words i) in grind (arith, nat_tests, small))
