use Rattle.std.proofs.Common.{◌∙◌, sym, arith}
use Rattle.ckrt_tables.specs.declared.reading_keys.KeyEntries.{KeyEntries}
use Rattle.ckrt_tables.specs.Records.{words_from}
use Rattle.ckrt_tables.proofs.KeyEntries.{words_fit, words_found}
use Rattle.ckrt_tables.proofs.reading_keys.read_words.Goals as goal

pub returns : goal.returns
returns c = λ os rest are n e.
    let size = are.0 in
    let all : KeyEntries = record { by_key = os } in
    let got = c.read_rows.ensures all (words_from 0 os) rest (sym n ∙ sym c.from.ensures) (words_fit 0 os (omega (arith, size)) are.1) (sym (words_found os size)) e in
    (sym got.0, got.1)
