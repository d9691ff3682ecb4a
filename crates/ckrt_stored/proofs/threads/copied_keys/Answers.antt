use Rattle.std.proofs.Common.{◌≡◌, ◌∙◌, None, get_or, length, ap, slice_set, arith}
use Rattle.ckrt_tables.proofs.Rows.{at_place}
use Rattle.ckrt_tables.proofs.Filled.{filled, filled_next}
use Rattle.ckrt_stored.proofs.RowLemmas.{keys_size}
use Rattle.ckrt_stored.proofs.threads.copied_keys.Goals as goal

pub loop-key-preserved : goal.loop-key-preserved
loop-key-preserved c =
    let xs = c.args.keys.now.destructors in let k = c.loop-key.key in
    let size : length xs ≡ 32 = keys_size c.args.keys.now c.known.ensures in
    let here : c.destructor.result ≡ get_or xs k None = c.destructor.ensures.key ∙ at_place xs k (omega (arith, size, c.loop-key-test.true)) in
    ap (λ a. slice_set a k c.destructor.result) c.loop-key.invariant
    ∙ ap (λ x. slice_set (filled None 32 k xs) k x) here
    ∙ filled_next None 32 xs k size c.loop-key-test.true
