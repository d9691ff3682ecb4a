use Rattle.std.proofs.Common.{◌≡◌, ℕ, length, true, false, is_ok, is_err, subst, rules}
use Rattle.ckrt_disk.specs.Disk.{IsWithin}
use Rattle.ckrt_disk.specs.Frame.{WritesWithin}
use Rattle.ckrt_disk.proofs.FrameLemmas.{synced, synced_behind, writes_on}
use Rattle.ckrt_disk.proofs.synced.write_synced.Goals as goal

pub returns-clause-within : goal.returns-clause-within
returns-clause-within g c =
    let d = g.D.Disk in let s = c.sync.ensures in let s₀ = c.args.disk.now in let s₁ = c.write_part.new.disk in let s₂ = c.sync.new.self in
    let region : ℕ → Type 0 = IsWithin c.args.at (length c.args.bytes.now) in
    let second : WritesWithin d region 1 s₁ s₂ (is_err c.sync.result) =
    synced d s₁ s₂ c.sync.result s.nothing_pending s.content s.torn s.pending s.time s.honest s.size s.named_stop s.calls s.failures region in
    let fine : is_err c.write_part.result ≡ false = search rules in
    writes_on d region 1 1 s₀ s₁ s₂ (is_err c.sync.result) (subst (λ b. WritesWithin d region 1 s₀ s₁ b) fine c.write_part.ensures.within) second

pub returns-clause-nothing_pending : goal.returns-clause-nothing_pending
returns-clause-nothing_pending g c = search rules

pub returns-clause-gives : goal.returns-clause-gives
returns-clause-gives g c =
    let d = g.D.Disk in
    let fine : is_ok c.write_part.result ≡ true = search rules in
    synced_behind d c.args.at c.args.bytes.now c.args.disk.now c.write_part.new.disk c.sync.new.self c.sync.result (subst (λ ok. d.write_gives c.args.disk.now c.args.at c.args.bytes.now ok c.write_part.new.disk) fine c.write_part.ensures.gives) c.sync.ensures.gives
