use Rattle.std.proofs.Common.{◌<◌, ◌≤◌, ◌-◌, inl, inr, is_err, rules}
use Rattle.std.specs.Prelude.{⊤}
use Rattle.ckrt_disk.proofs.FrameLemmas.{wider}
use Rattle.ckrt_stored.specs.Filling.{FillsAt, smallest_disk}
use Rattle.ckrt_stored.proofs.filling.fill_up.Goals as goal

pub returns-then-length-lt-SMALLEST_DISK-clause-within :
    goal.returns-then-length-lt-SMALLEST_DISK-clause-within
returns-then-length-lt-SMALLEST_DISK-clause-within g c =
    let d = g.D.Disk in let s₀ = c.args.disk.now in let s₁ = c.fill_whole.new.disk in
    let short : c.args.length < smallest_disk = search rules in
    wider d (λ _. ⊤) (FillsAt c.args.length) (d.calls s₁ - d.calls s₀) s₀ s₁ (is_err c.fill_whole.result) (λ i any. inl short) c.fill_whole.ensures.within

pub returns-else-length-lt-SMALLEST_DISK-clause-within :
    goal.returns-else-length-lt-SMALLEST_DISK-clause-within
returns-else-length-lt-SMALLEST_DISK-clause-within g c =
    let d = g.D.Disk in let s₀ = c.args.disk.now in let s₁ = c.fill_behind.new.disk in
    wider d (λ i. c.args.length ≤ i) (FillsAt c.args.length) (d.calls s₁ - d.calls s₀) s₀ s₁ (is_err c.fill_behind.result) (λ i le. inr le) c.fill_behind.ensures.within
