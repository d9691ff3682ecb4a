use Rattle.std.proofs.Common.{◌≤◌, ◌-◌, ◌∙◌, true, inl, is_err, ap}
use Rattle.ckrt_disk.specs.Frame.{MayBeLeft, Nowhere}
use Rattle.ckrt_disk.proofs.FrameLemmas.{failed_within, wider}
use Rattle.ckrt_disk.proofs.Moments.{weaker}
use Rattle.ckrt_stored.specs.Layout.{is_open}
use Rattle.ckrt_stored.proofs.FillLemmas.{both_parts, goes_on_closed}
use Rattle.ckrt_stored.proofs.filling.fill_behind.Goals as goal

pub returns-in_err-settle_gate-clause-within : goal.returns-in_err-settle_gate-clause-within
returns-in_err-settle_gate-clause-within g c =
    let d = g.D.Disk in let s₀ = c.args.disk.now in let s₁ = c.settle_gate.new.disk in let n = d.calls s₁ - d.calls s₀ in
    failed_within d (λ i. c.args.length ≤ i) n n s₀ s₁ (is_err c.from_residual.result) c.from_residual.ensures.0 (wider d Nowhere (λ i. c.args.length ≤ i) n s₀ s₁ true (λ i no. absurd no) c.in_err-settle_gate.ensures.within)

pub returns-clause-within : goal.returns-clause-within
returns-clause-within g c =
    let d = g.D.Disk in
    both_parts d Nowhere (λ i. c.args.length ≤ i) (d.calls c.settle_gate.new.disk - d.calls c.args.disk.now) c.args.disk.now c.settle_gate.new.disk c.fill.new.disk (is_err c.fill.result) (λ i no. absurd no) _ (λ i le. le)
    c.in_ok-settle_gate.ensures.within c.fill.ensures.within

pub returns-clause-closed : goal.returns-clause-closed
returns-clause-closed g c = λ closed.
    let d = g.D.Disk in let s₀ = c.args.disk.now in let s₁ = c.settle_gate.new.disk in
    goes_on_closed d (MayBeLeft d s₀) c.args.length (d.calls c.fill.new.disk - d.calls s₁) s₀ s₁ c.fill.new.disk (is_err c.fill.result) c.requires.some
    (λ h. weaker d.moment d.left_since s₀ s₁ _ _ (c.settle_gate.ensures.any_moment h) (λ image left. inl left)) c.fill.ensures.within
    (λ h. c.in_ok-settle_gate.ensures.durable h closed 0) (λ h. ap is_open (c.in_ok-settle_gate.ensures.content h) ∙ closed)
