use Rattle.std.proofs.Common.{◌≡◌, ◌<◌, None, length, map, get_or, sym, ap, ◌∙◌, arith, slice_set}
use Rattle.std.proofs.lemmas.List.{length-map}
use Rattle.ckrt_tables.specs.Records.{word_or_0}
use Rattle.ckrt_tables.proofs.Filled.{filled, filled_next, filled_all}
use Rattle.ckrt_tables.proofs.KeyEntries.{map_at}
use Rattle.ckrt_tables.proofs.reading_keys.values_of.Goals as goal

pub loop-key-preserved : goal.loop-key-preserved
loop-key-preserved c =
    let xs = c.args.words.now in
    let k = c.loop-key.key in
    let size : length (map word_or_0 xs) ≡ 32 = length-map xs word_or_0 ∙ c.told-words in
    let within : k < length xs = omega (arith, c.told-words, c.loop-key-test.true) in
    let here : c.word_or_0.result ≡ get_or (map word_or_0 xs) k 0 = c.word_or_0.ensures ∙ sym (map_at word_or_0 xs k None 0 within) in
    ap (λ a. slice_set a k c.word_or_0.result) c.loop-key.invariant
    ∙ ap (λ x. slice_set (filled 0 32 k (map word_or_0 xs)) k x) here
    ∙ filled_next 0 32 (map word_or_0 xs) k size c.loop-key-test.true

pub returns : goal.returns
returns c =
    let xs = c.args.words.now in
    let size : length (map word_or_0 xs) ≡ 32 = length-map xs word_or_0 ∙ c.told-words in
    c.loop-key.invariant ∙ filled_all 0 32 (map word_or_0 xs) c.loop-key.key size (omega (arith, c.loop-key-test.false))
