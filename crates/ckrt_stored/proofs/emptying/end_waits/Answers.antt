use Rattle.std.proofs.Common.{length, ap, ◌∙◌, sym, arith}
use Rattle.ckrt_stored.proofs.EmptyingLemmas.{first_out, none_first}
use Rattle.ckrt_stored.proofs.emptying.end_waits.Goals as goal

pub loop-wait-smaller : goal.loop-wait-smaller
loop-wait-smaller c =
    let less = first_out c.loop-wait.threads.waits c.in-Some.wait (sym c.wait_at.ensures ∙ c.in-Some.is) in
    let same = ap (λ s. length s.waits) c.take_wait.ensures in
    omega (arith, same, less)

pub returns : goal.returns
returns c =
    c.loop-wait.invariant
    ∙ ap (λ ws. record c.args.threads.now { waits = ws }) (none_first c.loop-wait.threads.waits (sym c.wait_at.ensures ∙ c.in_default.is))
