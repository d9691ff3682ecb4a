use Rattle.std.proofs.Common.{◌≡◌, ◌∙◌, ◌+◌, ◌-◌, ◌++◌, ◌∷◌, suc, replicate, sym, ap, arith}
use Rattle.ckrt_machine.specs.Runs.{after_steps, with_byte}
use Rattle.ckrt_machine.specs.Steps.{State, hart_step}
use Rattle.ckrt_look_calls.specs.Events.{state_behind}
use Rattle.ckrt_look_calls.proofs.RunLemmas.{state_next}
use Rattle.ckrt_look_timeline.specs.Activities.{activity_of}
use Rattle.ckrt_look_timeline.specs.Tracks.{in_rest}
use Rattle.ckrt_look_calls.proofs.RowLemmas.{quiet_state}
use Rattle.ckrt_look_timeline.proofs.WalkLemmas.{quiet_rest, rest_next}
use Rattle.ckrt_look_timeline.proofs.walk.go_alike.Goals as goal

-- some quiet ones
pub returns-then-made-gt0 : goal.returns-then-made-gt0
returns-then-made-gt0 c =
    let s = c.args.machine.now.state in
    let out = c.args.machine.now.output in
    let h = c.args.hart in
    let all = c.args.limit in
    let made = c.go_quietly-made.result in
    let m = c.go_quietly-made.new.machine in
    let went = c.go_quietly-made.ensures in
    let n = all - made in
    let is : all ≡ made + n = omega (arith, went.within) in
    record {
      some = omega (arith, c.if-made-gt0.true);
      within = went.within;
      state =
          ap (λ (y : State). state_behind n h y m.output) went.state ∙ ap (λ o. state_behind n h (after_steps made h s out).state o) went.output
          ∙ sym (quiet_state made n all h s out is went.goes_on);
      alike = λ t. quiet_rest made n all t h s out is (went.goes_on, went.quiet)
          ∙ ap (λ (y : State). replicate made (activity_of h t s.tables.threads) ++ in_rest t n h y (after_steps made h s out).output) (sym went.state)
          ∙ ap (λ o. replicate made (activity_of h t s.tables.threads) ++ in_rest t n h m.state o) (sym went.output);
    }

-- one that isn't
pub returns : goal.returns
returns c =
    let s = c.args.machine.now.state in
    let out = c.args.machine.now.output in
    let h = c.args.hart in
    let all = c.args.limit in
    let made = c.go_quietly-made.result in
    let z = c.go_quietly-made.new.machine in
    let m = c.advance.new.machine in
    let went = c.go_quietly-made.ensures in
    let none : made ≡ 0 = omega (arith, c.if-made-gt0.false) in
    let n = all - 1 in
    let is : all ≡ suc n = omega (arith, c.requires.some) in
    let state : z.state ≡ s = went.state ∙ ap (λ k. (after_steps k h s out).state) none in
    let output : z.output ≡ out = went.output ∙ ap (λ k. (after_steps k h s out).output) none in
    let moved : m.state ≡ (hart_step h s).state = c.advance.ensures.state ∙ ap (λ (y : State). (hart_step h y).state) state in
    let put : m.output ≡ with_byte (hart_step h s).put out =
    c.advance.ensures.output ∙ ap (λ (y : State). with_byte (hart_step h y).put z.output) state ∙ ap (λ o. with_byte (hart_step h s).put o) output in
    record {
      some = omega arith;
      within = c.requires.some;
      state =
          ap (λ (y : State). state_behind n h y m.output) moved ∙ ap (λ o. state_behind n h (hart_step h s).state o) put ∙ sym (state_next n h s out c.requires.going)
          ∙ ap (λ j. state_behind j h s out) (sym is);
      alike = λ t. ap (λ j. in_rest t j h s out) is ∙ rest_next t n h s out c.requires.going
          ∙ ap (λ (y : State). activity_of h t s.tables.threads ∷ in_rest t n h y (with_byte (hart_step h s).put out)) (sym moved)
          ∙ ap (λ o. activity_of h t s.tables.threads ∷ in_rest t n h m.state o) (sym put);
    }
