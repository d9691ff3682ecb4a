use Rattle.std.proofs.Common.{◌≡◌, ◌∙◌, ◌+◌, ◌-◌, ℕ, suc, None, refl, ap, sym, arith}
use Rattle.ckrt_memory.proofs.FollowLemmas.{follows_itself, follows_on}
use Rattle.ckrt_machine.specs.Runs.{Stepping, stop_of, with_byte}
use Rattle.ckrt_machine.specs.Steps.{State, hart_step}
use Rattle.ckrt_look_calls.specs.Events.{at, state_behind}
use Rattle.ckrt_look_calls.proofs.RunLemmas.{is_going, state_next}
use Rattle.ckrt_look_calls.specs.Walks.{after_rest, next, run_of, stepped}
use Rattle.ckrt_look_calls.proofs.WalkLemmas.{rest_next}
use Rattle.ckrt_look_calls.proofs.walk.watch_steps.Goals as goal

-- no step yet
pub loop-step-init : goal.loop-step-init
loop-step-init g c = record {
  within = c.requires;
  state = refl;
  follows = follows_itself _;
  watched = refl;
}

-- one step more
pub loop-step-preserved : goal.loop-step-preserved
loop-step-preserved g c =
    let f = g.W.StepWatcher.after in
    let so_far = c.loop-step.invariant in
    let i = c.loop-step.step in
    let limit = c.args.limit in
    let k = c.args.made.event in
    let h = c.args.hart in
    let m = c.loop-step.machine in
    let w = c.loop-step.watcher in
    let e = hart_step h m.state in
    let n : ℕ = limit - (i + 1) in
    let left : limit - i ≡ suc n = omega arith in
    let step : i + 1 ≡ suc i = omega arith in
    let going : stop_of h m.state.tables m.output ≡ None = is_going _ (sym c.is_stopped.ensures ∙ c.if-is_stopped.false) in
    let new = c.watch_step.new.machine in
    let v = c.watch_step.new.self in
    let state : new.state ≡ e.state = c.watch_step.ensures.state in
    let output : new.output ≡ with_byte e.put m.output = c.watch_step.ensures.output in
    let is : state_behind n h new.state new.output ≡ state_behind (limit - i) h m.state m.output =
    ap (λ (s : State). state_behind n h s new.output) state ∙ ap (λ out. state_behind n h e.state out) output
    ∙ sym (state_next n h m.state m.output going) ∙ ap (λ j. state_behind j h m.state m.output) (sym left) in
    let run : run_of new ≡ stepped m.output e =
    ap (λ (s : State). record { state = s; output = new.output }) state ∙ ap (λ out. record { state = e.state; output = out }) output in
    let later : after_rest f n h (at k (i + 1)) (run_of new) v ≡ after_rest f n h (next (at k i)) (stepped m.output e) (f (at k i) h m.state w) =
    ap (λ (r : Stepping). after_rest f n h (at k (i + 1)) r v) run
    ∙ ap (λ j. after_rest f n h (at k j) (stepped m.output e) v) step
    ∙ ap (λ u. after_rest f n h (next (at k i)) (stepped m.output e) u) c.watch_step.ensures.watched in
    let parts : after_rest f (limit - i) h (at k i) (run_of m) w ≡ after_rest f n h (next (at k i)) (stepped m.output e) (f (at k i) h m.state w) =
    ap (λ j. after_rest f j h (at k i) (run_of m) w) left ∙ rest_next f n h (at k i) (run_of m) w going in
    record {
      within = omega arith;
      state = is ∙ so_far.state;
      follows = follows_on _ _ _ so_far.follows c.watch_step.ensures.follows;
      watched = later ∙ sym parts ∙ so_far.watched;
    }
