use Rattle.std.proofs.Common.{◌<◌, ◌-◌, ◌∙◌, true, false, inl, inr, is_err, sym, arith}
use Rattle.std.proofs.lemmas.Bool.{cases_lt}
use Rattle.std.specs.Prelude.{⊤}
use Rattle.ckrt_disk.proofs.FrameLemmas.{failed_within, wider}
use Rattle.ckrt_stored.specs.Filling.{block}
use Rattle.ckrt_stored.proofs.FillLemmas.{begins, both_parts, filled_behind, goes_on_closed, on_well}
use Rattle.ckrt_stored.proofs.filling.fill_whole.Goals as goal

pub returns-in_err-begin-clause-within : goal.returns-in_err-begin-clause-within
returns-in_err-begin-clause-within g c =
    let d = g.D.Disk in let s₀ = c.args.disk.now in let s₁ = c.begin.new.disk in
    failed_within d (λ _. ⊤) 2 (d.calls s₁ - d.calls s₀) s₀ s₁ (is_err c.from_residual.result) c.from_residual.ensures.0 (wider d (λ i. i < block) (λ _. ⊤) 2 s₀ s₁ true (λ i lt. tt) c.in_err-begin.ensures.within)

pub returns-clause-within : goal.returns-clause-within
returns-clause-within g c =
    both_parts g.D.Disk (λ i. i < block) (λ _. ⊤) 2 c.args.disk.now c.begin.new.disk c.fill.new.disk (is_err c.fill.result) (λ i lt. tt) _ (λ i le. tt) c.in_ok-begin.ensures.within c.fill.ensures.within

pub returns-clause-begun : goal.returns-clause-begun
returns-clause-begun g c =
    let d = g.D.Disk in let s₀ = c.args.disk.now in let s₁ = c.begin.new.disk in
    goes_on_closed d _ 4096 (d.calls c.fill.new.disk - d.calls s₁) s₀ s₁ c.fill.new.disk (is_err c.fill.result) (omega arith) (begins d 2 s₀ s₁ false c.in_ok-begin.ensures.within) c.fill.ensures.within
    (λ h. c.in_ok-begin.ensures.nothing_pending h 0) c.in_ok-begin.ensures.closed

-- the first block stays, and zeros are behind it
pub returns-clause-filled : goal.returns-clause-filled
returns-clause-filled g c = on_well c.fill.result (λ well zeros honest i fills inside.
    let d = g.D.Disk in let s₁ = c.begin.new.disk in let s₂ = c.fill.new.disk in let same = c.fill.ensures.within.same in
    let fits = g.met.D.Disk.whole s₂ honest in
    elim (cases_lt i 4096) [
      | inl front ↦ ((c.fill.ensures.within.content well honest).same i (λ le. absurd (omega (arith, front, le)))) ∙ c.in_ok-begin.ensures.filled (same.honest honest) i front (omega (arith, inside, fits, same.size))
      | inr behind ↦ zeros honest i behind ∙ sym (filled_behind i (omega (arith, behind)))
    ]) c.fill.ensures.zeros
