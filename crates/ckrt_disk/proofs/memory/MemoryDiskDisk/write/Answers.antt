use Rattle.std.proofs.Common.{◌≡◌, ℕ, length, inr, arith}
use Rattle.std.proofs.lemmas.Grind.{common_steps}
use Rattle.std.proofs.lemmas.List.{with_items_is}
use Rattle.std.specs.Vec.{with_items}
use Rattle.ckrt_disk.specs.Disk.{IsOverwritten, IsWithin}
use Rattle.ckrt_disk.specs.Marked.{IsMarked}
use Rattle.ckrt_disk.proofs.Images.{image_of_image, written_image}
use Rattle.ckrt_disk.proofs.Moments.{noted}
use Rattle.ckrt_disk.proofs.memory.MemoryDiskDisk.write.Goals as goal

pub invariant_of-self : goal.invariant_of-self
invariant_of-self c = grind (arith, common_steps)

pub invariant_of-self-2 : goal.invariant_of-self-2
invariant_of-self-2 c = grind (arith, common_steps)

pub returns-clause-time : goal.returns-clause-time
returns-clause-time c = λ _.
    let m = c.args.self.now.marked in
    let table : length c.mark.new.table ≡ m.pending.len = omega (arith, c.deref_mut.ensures.len) in
    let marked : (i : ℕ) → IsWithin c.args.at (length c.args.bytes.now) i → IsMarked (with_items m.pending c.mark.new.table).items i = rw (with_items_is m.pending c.mark.new.table table) (λ i within. (c.mark.ensures i).1 (inr within)) in
    let written : IsOverwritten m.bytes.items c.args.at c.args.bytes.now (with_items m.bytes c.overwrite.new.bytes).items = grind (arith, common_steps) in
    rw c.with.ensures (noted _ _ m _ _ _ _ (λ image is. image_of_image _ _ _ _ (written_image _ _ _ _ written c.requires _ marked) is))
