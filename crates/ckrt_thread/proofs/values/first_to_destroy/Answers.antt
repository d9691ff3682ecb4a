use Rattle.std.proofs.Common.{sym, ◌∙◌}
use Rattle.ckrt_thread.specs.Destructors.{is_to_destroy}
use Rattle.ckrt_thread.proofs.KeyLemmas.{find_next}
use Rattle.ckrt_thread.proofs.values.first_to_destroy.Goals as goal

pub loop-key-preserved : goal.loop-key-preserved
loop-key-preserved c =
    c.loop-key.invariant
    ∙ find_next (is_to_destroy c.args.keys.now c.args.specific.now) c.loop-key.key c.loop-key-test.true (sym c.is_to_destroy.ensures ∙ c.if-is_to_destroy.false)
