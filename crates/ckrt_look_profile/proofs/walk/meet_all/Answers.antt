use Rattle.std.proofs.Common.{◌≡◌, ◌∙◌, ℕ, ap, arith}
use Rattle.ckrt_look_profile.specs.Counts.{behind_all}
use Rattle.ckrt_look_profile.specs.Steps.{met_up_to}
use Rattle.ckrt_look_profile.proofs.walk.meet_all.Goals as goal

-- all 64 were met
pub returns : goal.returns
returns c =
    let all : c.loop-thread.thread ≡ 64 = omega (arith, c.loop-thread.auto.thread-end, c.loop-thread-test.false) in
    c.loop-thread.invariant ∙ ap (λ (t : ℕ). behind_all (met_up_to t c.args.machine.now.state) c.args.counts.now) all
