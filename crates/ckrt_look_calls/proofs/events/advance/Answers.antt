use Rattle.std.proofs.Common.{◌∙◌, [], sym, ap}
use Rattle.ckrt_machine.specs.Events.{After}
use Rattle.ckrt_machine.specs.Runs.{Ran, with_byte}
use Rattle.ckrt_machine.specs.Steps.{hart_step}
use Rattle.ckrt_look_calls.specs.Lines.{put_before}
use Rattle.ckrt_look_calls.proofs.RunLemmas.{output_used, state_used}
use Rattle.ckrt_look_calls.proofs.events.advance.Goals as goal

-- a run of one step is that step
pub returns-then-is_first-clause-state : goal.returns-then-is_first-clause-state
returns-then-is_first-clause-state c =
    let e = hart_step c.args.hart c.args.machine.now.state in
    ap (λ (a : After). a.state) c.step.ensures.step ∙ state_used c.args.hart e.state (with_byte e.put [])

pub returns-then-is_first-clause-output : goal.returns-then-is_first-clause-output
returns-then-is_first-clause-output c =
    let e = hart_step c.args.hart c.args.machine.now.state in
    ap (λ (a : After). a.output) c.step.ensures.step ∙ output_used c.args.hart e.state (with_byte e.put [])
    ∙ ap (λ b. with_byte e.put (put_before b c.args.machine.now)) (sym c.if-is_first.true)

pub returns-else-is_first-clause-state : goal.returns-else-is_first-clause-state
returns-else-is_first-clause-state c =
    let m = c.args.machine.now in
    let e = hart_step c.args.hart m.state in
    ap (λ (r : Ran). r.state) c.go_on.ensures.run ∙ state_used c.args.hart e.state (with_byte e.put m.output)

pub returns-else-is_first-clause-output : goal.returns-else-is_first-clause-output
returns-else-is_first-clause-output c =
    let m = c.args.machine.now in
    let e = hart_step c.args.hart m.state in
    ap (λ (r : Ran). r.output) c.go_on.ensures.run ∙ output_used c.args.hart e.state (with_byte e.put m.output)
    ∙ ap (λ b. with_byte e.put (put_before b m)) (sym c.if-is_first.false)
