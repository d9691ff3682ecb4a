use Rattle.std.proofs.Common.{◌≤◌, sym, ◌∙◌, arith}
use Rattle.ckrt_thread.specs.Keys.{is_of_key}
use Rattle.ckrt_thread.proofs.KeyLemmas.{all_next, not_all, all_done}
use Rattle.ckrt_thread.proofs.values.are_all_of_keys.Goals as goal

pub returns-then-not-is_of_key : goal.returns-then-not-is_of_key
returns-then-not-is_of_key c =
    sym (c.loop-key.invariant ∙ not_all (is_of_key c.args.keys.now c.args.specific.now) c.loop-key.key c.loop-key-test.true (sym c.is_of_key.ensures ∙ c.if-not-is_of_key.true))

pub loop-key-preserved : goal.loop-key-preserved
loop-key-preserved c =
    c.loop-key.invariant ∙ all_next (is_of_key c.args.keys.now c.args.specific.now) c.loop-key.key c.loop-key-test.true (sym c.is_of_key.ensures ∙ c.if-not-is_of_key.false)

pub returns : goal.returns
returns c =
    let over : 32 ≤ c.loop-key.key = omega (arith, c.loop-key-test.false) in
    sym (c.loop-key.invariant ∙ all_done (is_of_key c.args.keys.now c.args.specific.now) c.loop-key.key over)
