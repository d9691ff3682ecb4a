use Rattle.std.proofs.Common.{◌+◌, ◌-◌, List, ℕ, ◌∙◌, subst}
use Rattle.ckrt_look_calls.specs.Events.{lines_after}
use Rattle.ckrt_look_calls.proofs.AppendLemmas.{Completes, completes_more}
use Rattle.ckrt_look_calls.proofs.events.trace_steps.Goals as goal

-- some steps more
pub loop-step-preserved : goal.loop-step-preserved
loop-step-preserved g c =
    let has = g.W.Write.contents in
    let so_far = c.loop-step.invariant in
    let h = c.args.hart in
    let k = c.args.made.event in
    let told = c.in_ok-step.ensures in
    let step = c.loop-step.step + c.in_ok-step.field-0 in
    let m = c.trace_some.new.machine in
    let a = has c.args.out.now in
    let b = has c.loop-step.out in
    let z = has c.trace_some.new.out in
    let rest : List ℕ = lines_after k (c.args.limit - step) step h m.state m.output in
    let all : List ℕ = lines_after k (c.args.limit - c.args.made.step) c.args.made.step h c.args.machine.now.state c.args.machine.now.output in
    record {
      within = told.within;
      state = told.state ∙ so_far.state;
      lines = completes_more a b z told.lines rest all (subst (λ (l : List ℕ). Completes a b l all) told.parts so_far.lines) told.written;
    }
