use Rattle.std.proofs.Common.{◌≡◌, ℕ, length, arith}
use Rattle.std.proofs.lemmas.List.{with_items_is}
use Rattle.std.specs.Vec.{with_items}
use Rattle.ckrt_disk.specs.Marked.{IsMarked}
use Rattle.ckrt_disk.proofs.Images.{wider_image}
use Rattle.ckrt_disk.proofs.Moments.{noted}
use Rattle.ckrt_disk.proofs.memory.MemoryDiskDisk.sync.Goals as goal

pub returns-clause-time : goal.returns-clause-time
returns-clause-time c = λ _.
    let m = c.args.self.now.marked in
    let table : length c.clear.new.table ≡ m.pending.len = omega (arith, c.deref_mut.ensures.len) in
    let none : (i : ℕ) → ¬ IsMarked (with_items m.pending c.clear.new.table).items i = rw (with_items_is m.pending c.clear.new.table table) c.clear.ensures in
    rw c.with.ensures (noted _ _ m _ _ _ _ (λ image is. wider_image _ _ _ image (λ i had. absurd (none i had)) is))
