use Rattle.std.proofs.Common.{◌≡◌, ◌≤◌, ◌∙◌, ◌+◌, ◌-◌, ◌++◌, ℕ, suc, sym, ap, arith}
use Rattle.ckrt_machine.specs.Runs.{after_steps, with_byte}
use Rattle.ckrt_machine.specs.Steps.{State, hart_step}
use Rattle.ckrt_look_calls.specs.Events.{lines_after, state_behind}
use Rattle.ckrt_look_calls.specs.Lines.{fault_line, step_lines}
use Rattle.ckrt_look_calls.proofs.RowLemmas.{quiet_state, told_quietly}
use Rattle.ckrt_look_calls.proofs.RunLemmas.{lines_next, state_next}
use Rattle.ckrt_look_calls.proofs.events.trace_some.Goals as goal

-- one that isn't quiet
pub returns-then-quiet-eq0 : goal.returns-then-quiet-eq0
returns-then-quiet-eq0 g c =
    let s = c.args.machine.now.state in
    let out = c.args.machine.now.output in
    let h = c.args.hart in
    let k = c.args.made.event in
    let p = c.args.made.step in
    let z = c.go_quietly-quiet.new.machine in
    let m = c.trace_step.new.machine in
    let went = c.go_quietly-quiet.ensures in
    let none : c.go_quietly-quiet.result ≡ 0 = omega (arith, c.if-quiet-eq0.true) in
    let n : ℕ = c.args.limit - (p + 1) in
    let left : c.args.limit - p ≡ suc n = omega (arith, c.requires.some) in
    let next : suc p ≡ p + 1 = omega arith in
    let state : z.state ≡ s = went.state ∙ ap (λ j. (after_steps j h s out).state) none in
    let output : z.output ≡ out = went.output ∙ ap (λ j. (after_steps j h s out).output) none in
    let moved : m.state ≡ (hart_step h s).state = c.in_ok-trace_step.ensures.state ∙ ap (λ (y : State). (hart_step h y).state) state in
    let put : m.output ≡ with_byte (hart_step h s).put out =
    c.in_ok-trace_step.ensures.output ∙ ap (λ (y : State). with_byte (hart_step h y).put z.output) state ∙ ap (λ o. with_byte (hart_step h s).put o) output in
    record {
      some = omega arith;
      within = omega (arith, c.requires.some);
      state =
          ap (λ (y : State). state_behind n h y m.output) moved ∙ ap (λ o. state_behind n h (hart_step h s).state o) put ∙ sym (state_next n h s out c.requires.going)
          ∙ ap (λ j. state_behind j h s out) (sym left);
      lines = step_lines c.args.made h z.state;
      written = c.in_ok-trace_step.ensures.lines;
      parts =
          ap (λ j. lines_after k j p h s out) left ∙ lines_next k n p h s out c.requires.going
          ∙ ap (λ (y : State). step_lines c.args.made h y ++ lines_after k n (suc p) h (hart_step h s).state (with_byte (hart_step h s).put out)) (sym state)
          ∙ ap (λ j. step_lines c.args.made h z.state ++ lines_after k n j h (hart_step h s).state (with_byte (hart_step h s).put out)) next
          ∙ ap (λ (y : State). step_lines c.args.made h z.state ++ lines_after k n (p + 1) h y (with_byte (hart_step h s).put out)) (sym moved)
          ∙ ap (λ o. step_lines c.args.made h z.state ++ lines_after k n (p + 1) h m.state o) (sym put);
    }

-- some quiet ones
pub returns : goal.returns
returns g c =
    let s = c.args.machine.now.state in
    let out = c.args.machine.now.output in
    let h = c.args.hart in
    let k = c.args.made.event in
    let p = c.args.made.step in
    let quiet = c.go_quietly-quiet.result in
    let z = c.go_quietly-quiet.new.machine in
    let went = c.go_quietly-quiet.ensures in
    let some : 1 ≤ quiet = omega (arith, c.if-quiet-eq0.false) in
    let all : ℕ = c.args.limit - p in
    let n : ℕ = c.args.limit - (p + quiet) in
    let is : all ≡ quiet + n = omega (arith, went.within) in
    let last : ℕ = p + quiet - 1 in
    record {
      some = some;
      within = omega (arith, went.within, c.requires.some);
      state =
          ap (λ (y : State). state_behind n h y z.output) went.state ∙ ap (λ o. state_behind n h (after_steps quiet h s out).state o) went.output
          ∙ sym (quiet_state quiet n all h s out is went.goes_on);
      lines = fault_line (record { event = k; step = last }) c.status.result;
      written = c.in_ok-write_fault.ensures;
      parts = told_quietly quiet n all k p last h s z.state out z.output c.status.result is some (omega (arith, some)) went.state went.output c.status.ensures (went.goes_on, went.quiet);
    }
