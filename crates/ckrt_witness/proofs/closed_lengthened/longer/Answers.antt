use Rattle.std.proofs.Common.{◌≡◌, ◌∙◌, ◌<◌, ◌++◌, List, ℕ, length, replicate, ap, sym, subst}
use Rattle.ckrt_disk.specs.contracts.memory.MemoryDiskDisk.TheImpl as memory
use Rattle.ckrt_drive.specs.Lengthening.{IsLonger}
use Rattle.ckrt_stored.specs.Programs.{RecoversToStart}
use Rattle.ckrt_witness.proofs.closed_lengthened.longer.Goals as goal

pub returns : goal.returns
returns g c =
    let p = c.formatted-image.ensures in
    let image : List ℕ = c.formatted-image.result.items in
    let before = c.memory_disk-before in
    let behind = c.memory_disk-behind in
    let zeros : c.with_zeros-longer.result.items ≡ image ++ replicate 1024 0 = c.with_zeros-longer.ensures.zeros ∙ ap (λ (l : List ℕ). l ++ replicate 1024 0) c.deref.ensures.value in
    let more : length image < length c.with_zeros-longer.result.items = subst (λ (l : List ℕ). length l < length c.with_zeros-longer.result.items) c.deref.ensures.value c.with_zeros-longer.ensures.longer in
    let longer : IsLonger image c.with_zeros-longer.result.items = record { zeros = 1024; is = zeros } in
    c.lengthen.ensures p.0 c.args.file.now before.result behind.result c.memory_disk-output.result (record {
      honest = tt;
      formatted = subst (RecoversToStart p.0) (sym before.ensures.content) p.1;
      settled = before.ensures.settled;
      settled_longer = behind.ensures.settled;
      zeros = subst (λ (l : List ℕ). IsLonger l (memory.ghosts.content behind.result)) (sym before.ensures.content) (subst (IsLonger image) (sym behind.ensures.content) longer);
      more = subst (λ (l : List ℕ). length l < length (memory.ghosts.content behind.result)) (sym before.ensures.content) (subst (λ (l : List ℕ). length image < length l) (sym behind.ensures.content) more);
    }) c.memory_disk-output.ensures.settled
