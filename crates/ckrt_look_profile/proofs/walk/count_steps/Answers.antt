use Rattle.std.proofs.Common.{◌≡◌, ◌∙◌, ◌+◌, ◌-◌, ap, arith}
use Rattle.ckrt_look_calls.specs.Events.{state_behind}
use Rattle.ckrt_look_profile.specs.Counts.{behind_all}
use Rattle.ckrt_look_profile.specs.Steps.{of_rest}
use Rattle.ckrt_look_profile.proofs.walk.count_steps.Goals as goal

-- one piece more
pub loop-made-preserved : goal.loop-made-preserved
loop-made-preserved c =
    let so_far = c.loop-made.invariant in
    let i = c.loop-made.made in
    let more = c.args.more in
    let h = c.args.hart in
    let made = c.count_piece-made.result in
    let new = c.count_piece-made.new.machine in
    let did = c.count_piece-made.ensures in
    let same : more - (i + made) ≡ (more - i) - made = omega (arith, did.within) in
    record {
      within = omega (arith, did.within);
      state = ap (λ j. state_behind j h new.state new.output) same ∙ did.state ∙ so_far.state;
      counted = ap (λ j. behind_all (of_rest j h new.state new.output) c.count_piece-made.new.counts) same ∙ did.counted ∙ so_far.counted;
    }
