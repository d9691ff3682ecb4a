use Rattle.std.proofs.Common.{◌≡◌, ◌<◌, ℕ, List, Option, None, ◌++◌, ◌∙◌, length, map, ap, sym, arith}
use Rattle.std.specs.List.{flat_map}
use Rattle.std.proofs.lemmas.List.{take_all, length-map}
use Rattle.ckrt_tables.specs.Records.{word_at, words_from, if_not_0}
use Rattle.ckrt_tables.proofs.KeyEntries.{map_at}
use Rattle.ckrt_inspect.specs.Listing.{value_line}
use Rattle.ckrt_inspect.proofs.PushLemmas.{pushed_word}
use Rattle.ckrt_inspect.proofs.keys.push_values.Goals as goal

pub loop-key-preserved : goal.loop-key-preserved
loop-key-preserved c =
    let os : List (Option ℕ) = map if_not_0 c.args.values.now in
    let k = c.loop-key.key in
    let size : length os ≡ 32 = length-map c.args.values.now if_not_0 ∙ c.told-values in
    let within : k < length os = omega (arith, size, c.loop-key-test.true) in
    pushed_word (value_line c.args.thread) os k c.args.out.now.items c.loop-key.out.items c.push_value.new.out.items within c.loop-key.invariant (c.in_ok-push_value.ensures ∙ ap (λ o. c.loop-key.out.items ++ flat_map (value_line c.args.thread) (word_at k o)) (sym (map_at if_not_0 c.args.values.now k 0 None (omega (arith, c.told-values, c.loop-key-test.true)))))

pub returns : goal.returns
returns c =
    let os : List (Option ℕ) = map if_not_0 c.args.values.now in
    let size : length os ≡ 32 = length-map c.args.values.now if_not_0 ∙ c.told-values in
    c.loop-key.invariant ∙ ap (λ l. c.args.out.now.items ++ flat_map (value_line c.args.thread) (words_from 0 l)) (take_all c.loop-key.key os (omega (arith, size, c.loop-key-test.false)))
