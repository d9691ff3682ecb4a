use Rattle.std.proofs.Common.{◌≡◌, ◌<◌, None, length, map, get_or, sym, ap, ◌∙◌, arith, slice_set}
use Rattle.std.proofs.lemmas.List.{length-map}
use Rattle.ckrt_tables.specs.Records.{if_not_0}
use Rattle.ckrt_tables.proofs.Filled.{filled, filled_next, filled_all}
use Rattle.ckrt_tables.proofs.KeyEntries.{map_at}
use Rattle.ckrt_tables.proofs.keys.words_of.Goals as goal

pub loop-key-preserved : goal.loop-key-preserved
loop-key-preserved c =
    let xs = c.args.values.now in
    let k = c.loop-key.key in
    let size : length (map if_not_0 xs) ≡ 32 = length-map xs if_not_0 ∙ c.told-values in
    let within : k < length xs = omega (arith, c.told-values, c.loop-key-test.true) in
    let here : c.if_not_0.result ≡ get_or (map if_not_0 xs) k None = c.if_not_0.ensures ∙ sym (map_at if_not_0 xs k 0 None within) in
    ap (λ a. slice_set a k c.if_not_0.result) c.loop-key.invariant
    ∙ ap (λ x. slice_set (filled None 32 k (map if_not_0 xs)) k x) here
    ∙ filled_next None 32 (map if_not_0 xs) k size c.loop-key-test.true

pub returns : goal.returns
returns c =
    let xs = c.args.values.now in
    let size : length (map if_not_0 xs) ≡ 32 = length-map xs if_not_0 ∙ c.told-values in
    c.loop-key.invariant ∙ filled_all None 32 (map if_not_0 xs) c.loop-key.key size (omega (arith, c.loop-key-test.false))
