use Rattle.std.proofs.Common.{◌≡◌, ◌∙◌, ap, arith}
use Rattle.ckrt_look_values.specs.Instructions.{forgotten}
use Rattle.ckrt_look_values.proofs.calls.forget.Goals as goal

-- all 32
pub returns : goal.returns
returns c =
    let all : c.loop-register.register ≡ 32 = omega arith in
    c.loop-register.invariant ∙ ap (λ n. forgotten n c.args.thread c.args.values.now) all
