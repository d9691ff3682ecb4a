use Rattle.std.proofs.Common.{◌≡◌, ◌∙◌, ◌-◌, ℕ, suc, List, [], subst, arith}
use Rattle.std.proofs.lemmas.Result.{on_ok_weaker}
use Rattle.std.specs.Io.KnownBytes.{Appends}
use Rattle.ckrt_machine.specs.Runs.{run_on}
use Rattle.ckrt_look_calls.specs.Events.{at, lines_after, run_lines, state_behind}
use Rattle.ckrt_look_calls.specs.Lines.{step_lines}
use Rattle.ckrt_look_calls.proofs.AppendLemmas.{appends_both}
use Rattle.ckrt_look_calls.proofs.RunLemmas.{lines_are, run_is}
use Rattle.ckrt_look_calls.proofs.events.trace_run.Goals as goal

-- the first step, and those behind it
pub returns-clause-state : goal.returns-clause-state
returns-clause-state g c =
    let h = c.args.hart in
    let n : ℕ = c.args.limit - 1 in
    let all : suc n ≡ c.args.limit = omega arith in
    let m = c.trace_step.new.machine in
    let end = c.trace_steps.new.machine.state in
    let go : end ≡ state_behind n h m.state m.output → end ≡ (run_on c.args.limit h c.args.machine.now.state []).state =
    λ is. is ∙ run_is n c.args.limit h c.args.machine.now.state m.state m.output all c.in_ok-trace_step.ensures.state c.in_ok-trace_step.ensures.output in
    on_ok_weaker c.trace_steps.result go c.trace_steps.ensures.state

pub returns-clause-lines : goal.returns-clause-lines
returns-clause-lines g c =
    let has = g.W.Write.contents in
    let h = c.args.hart in
    let k = c.args.event in
    let s = c.args.machine.now.state in
    let n : ℕ = c.args.limit - 1 in
    let all : suc n ≡ c.args.limit = omega arith in
    let m = c.trace_step.new.machine in
    let a = has c.args.out.now in
    let b = has c.trace_step.new.out in
    let z = has c.trace_steps.new.out in
    let go : Appends b z (lines_after k n 1 h m.state m.output) → Appends a z (run_lines k c.args.limit 0 h s []) =
    λ last. subst (λ (l : List ℕ). Appends a z l) (lines_are k n c.args.limit h s m.state m.output all c.in_ok-trace_step.ensures.state c.in_ok-trace_step.ensures.output)
    (appends_both a b z (step_lines (at k 0) h s) (lines_after k n 1 h m.state m.output) c.in_ok-trace_step.ensures.lines last) in
    on_ok_weaker c.trace_steps.result go c.trace_steps.ensures.lines
