use Rattle.std.proofs.Common.{◌≡◌, length, arith, sym}
use Rattle.std.proofs.lemmas.Grind.{common_steps}
use Rattle.std.proofs.lemmas.List.{with_items_is}
use Rattle.std.specs.Vec.{with_items}
use Rattle.ckrt_disk.specs.Disk.{IsImage}
use Rattle.ckrt_disk.specs.Marked.{IsMarked}
use Rattle.ckrt_disk.proofs.Images.{image_of_image}
use Rattle.ckrt_disk.proofs.Moments.{noted}
use Rattle.ckrt_disk.proofs.stopping.StoppingDiskDisk.write.Goals as goal

pub invariant_of-self : goal.invariant_of-self
invariant_of-self c = grind (arith, common_steps)

pub invariant_of-self-2 : goal.invariant_of-self-2
invariant_of-self-2 c = grind (arith, common_steps)

pub returns-then-ne-clause-torn : goal.returns-then-ne-clause-torn
returns-then-ne-clause-torn c = grind (arith, common_steps)

pub returns-then-ne-clause-gives : goal.returns-then-ne-clause-gives
returns-then-ne-clause-gives c = grind (arith, common_steps)

pub returns-then-ne-clause-pending : goal.returns-then-ne-clause-pending
returns-then-ne-clause-pending c = λ _.
    let table : length c.mark.new.table ≡ c.args.self.now.marked.pending.len = omega (arith, c.deref_mut.ensures.len) in
    rw (with_items_is c.args.self.now.marked.pending c.mark.new.table table, sym c.deref_mut.ensures.value) c.mark.ensures

pub returns-then-ne-clause-time : goal.returns-then-ne-clause-time
returns-then-ne-clause-time c = λ _.
    let m = c.args.self.now.marked in
    let torn : IsImage m.bytes.items (IsMarked (with_items m.pending c.mark.new.table).items) (with_items m.bytes c.put.new.bytes).items = grind (arith, common_steps) in
    rw c.note_call-phase.ensures.history (noted _ _ m _ _ _ _ (λ image is. image_of_image _ _ _ _ torn is))

pub returns-clause-time : goal.returns-clause-time
returns-clause-time c = λ _.
    let m = c.args.self.now.marked in
    let torn : IsImage m.bytes.items (IsMarked (with_items m.pending c.mark.new.table).items) (with_items m.bytes c.put.new.bytes).items = grind (arith, common_steps) in
    rw c.note_call-phase.ensures.history (noted _ _ m _ _ _ _ (λ image is. image_of_image _ _ _ _ torn is))
