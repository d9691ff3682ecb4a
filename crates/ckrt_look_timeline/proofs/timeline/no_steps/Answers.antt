use Rattle.std.proofs.Common.{◌≡◌, ◌∙◌, [], replicate, refl, ap, arith}
use Rattle.ckrt_look_timeline.proofs.TrackLemmas.{nothing_done, nothing_yet}
use Rattle.ckrt_look_timeline.proofs.timeline.no_steps.Goals as goal

pub returns-clause-whole : goal.returns-clause-whole
returns-clause-whole c =
    let all : c.loop-thread._thread ≡ 64 = omega (arith, c.loop-thread-test.false, c.loop-thread.auto._thread-end) in
    nothing_yet (record { tracks = c.loop-thread.tracks; steps = 0 }) (c.loop-thread.invariant ∙ ap (λ n. replicate n []) all) refl

pub returns-clause-empty : goal.returns-clause-empty
returns-clause-empty c =
    let all : c.loop-thread._thread ≡ 64 = omega (arith, c.loop-thread-test.false, c.loop-thread.auto._thread-end) in
    λ i. nothing_done (record { tracks = c.loop-thread.tracks; steps = 0 }) i (c.loop-thread.invariant ∙ ap (λ n. replicate n []) all)
