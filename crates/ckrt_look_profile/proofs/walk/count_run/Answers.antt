use Rattle.std.proofs.Common.{◌≡◌, ◌∙◌, ◌-◌, ℕ, suc, ap, arith}
use Rattle.ckrt_look_calls.proofs.RunLemmas.{run_is}
use Rattle.ckrt_look_profile.specs.Counts.{Counts, behind_all}
use Rattle.ckrt_look_profile.specs.Steps.{of_rest}
use Rattle.ckrt_look_profile.proofs.WalkLemmas.{run_counted}
use Rattle.ckrt_look_profile.proofs.walk.count_run.Goals as goal

-- the first step, and those behind it
pub returns-clause-state : goal.returns-clause-state
returns-clause-state c =
    let n : ℕ = c.args.limit - 1 in
    let all : suc n ≡ c.args.limit = omega arith in
    let m = c.count_step.new.machine in
    c.count_steps.ensures.state ∙ run_is n c.args.limit c.args.hart c.args.machine.now.state m.state m.output all c.count_step.ensures.state c.count_step.ensures.output

pub returns-clause-counted : goal.returns-clause-counted
returns-clause-counted c =
    let n : ℕ = c.args.limit - 1 in
    let all : suc n ≡ c.args.limit = omega arith in
    let m = c.count_step.new.machine in
    c.count_steps.ensures.counted ∙ ap (λ (w : Counts). behind_all (of_rest n c.args.hart m.state m.output) w) c.count_step.ensures.counted
    ∙ run_counted n c.args.limit c.args.hart c.args.machine.now.state m.state m.output c.args.counts.now all c.count_step.ensures.state c.count_step.ensures.output
