use Rattle.std.proofs.Common.{◌<◌, None, length, length-append, take, get_or, sym, ap, ◌∙◌, arith}
use Rattle.std.proofs.lemmas.List.{take_all}
use Rattle.ckrt_tables.specs.Records.{word_at, words_from}
use Rattle.ckrt_tables.proofs.Slots.{words_next}
use Rattle.ckrt_tables.proofs.KeyEntries.{length_word_at}
use Rattle.ckrt_tables.proofs.keys.word_count.Goals as goal

pub loop-key-preserved : goal.loop-key-preserved
loop-key-preserved c =
    let os = c.args.words.now in
    let i = c.loop-key.key in
    let within : i < length os = omega (arith, c.requires, c.loop-key-test.true) in
    let next = ap length (words_next os i within) in
    let parts = length-append (words_from 0 (take i os)) (word_at i (get_or os i None)) in
    let one = c.one_if_some-count.ensures.one ∙ sym (length_word_at i (get_or os i None)) in
    record {
      few = omega (arith, c.loop-key.invariant.few, c.one_if_some-count.ensures.most);
      words = omega (arith, c.loop-key.invariant.words, next, parts, one);
    }

pub returns : goal.returns
returns c = c.loop-key.invariant.words ∙ ap (λ l. length (words_from 0 l)) (take_all c.loop-key.key c.args.words.now (omega (arith, c.requires, c.loop-key-test.false)))
