use Rattle.std.proofs.Common.{◌≡◌, ◌∙◌, ◌-◌, ℕ, suc, [], ap, arith}
use Rattle.ckrt_memory.proofs.FollowLemmas.{follows_on}
use Rattle.ckrt_machine.specs.Steps.{State, hart_step}
use Rattle.ckrt_look_calls.proofs.RunLemmas.{run_is}
use Rattle.ckrt_look_calls.specs.Walks.{run_of, stepped}
use Rattle.ckrt_look_calls.proofs.WalkLemmas.{run_watched}
use Rattle.ckrt_look_calls.proofs.walk.watch_run.Goals as goal

-- the first step, and those after it
pub returns-clause-state : goal.returns-clause-state
returns-clause-state g c =
    let n : ℕ = c.args.limit - 1 in
    let all : suc n ≡ c.args.limit = omega arith in
    let m = c.watch_step.new.machine in
    c.watch_steps.ensures.state ∙ run_is n c.args.limit c.args.hart c.args.machine.now.state m.state m.output all c.watch_step.ensures.state c.watch_step.ensures.output

pub returns-clause-follows : goal.returns-clause-follows
returns-clause-follows g c = follows_on _ _ _ c.watch_step.ensures.follows c.watch_steps.ensures.follows

pub returns-clause-watched : goal.returns-clause-watched
returns-clause-watched g c =
    let n : ℕ = c.args.limit - 1 in
    let all : suc n ≡ c.args.limit = omega arith in
    let s = c.args.machine.now.state in
    let m = c.watch_step.new.machine in
    let run : run_of m ≡ stepped [] (hart_step c.args.hart s) =
    ap (λ (t : State). record { state = t; output = m.output }) c.watch_step.ensures.state ∙ ap (λ out. record { state = (hart_step c.args.hart s).state; output = out }) c.watch_step.ensures.output in
    c.watch_steps.ensures.watched
    ∙ run_watched g.W.StepWatcher.after c.args.event n c.args.limit c.args.hart s (run_of m) c.args.watcher.now c.watch_step.new.self all run c.watch_step.ensures.watched
