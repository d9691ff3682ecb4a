use Rattle.std.proofs.Common.{◌≡◌, ℕ, length, arith}
use Rattle.std.proofs.lemmas.Grind.{common_steps}
use Rattle.std.proofs.lemmas.List.{with_items_is}
use Rattle.std.specs.Vec.{with_items}
use Rattle.ckrt_disk.specs.Disk.{IsImage}
use Rattle.ckrt_disk.specs.Marked.{IsMarked}
use Rattle.ckrt_disk.proofs.Images.{image_of_image, wider_image}
use Rattle.ckrt_disk.proofs.Moments.{noted}
use Rattle.ckrt_disk.proofs.stopping.StoppingDiskDisk.sync.Goals as goal

pub invariant_of-self : goal.invariant_of-self
invariant_of-self c = grind (arith, common_steps)

pub invariant_of-self-in-At : goal.invariant_of-self-in-At
invariant_of-self-in-At c = grind (arith, common_steps)

pub returns-in-Before-clause-time : goal.returns-in-Before-clause-time
returns-in-Before-clause-time c = λ _.
    let m = c.args.self.now.marked in
    let table : length c.clear.new.table ≡ m.pending.len = omega (arith, c.deref_mut.ensures.len) in
    let none : (i : ℕ) → ¬ IsMarked (with_items m.pending c.clear.new.table).items i = rw (with_items_is m.pending c.clear.new.table table) c.clear.ensures in
    rw c.note_call.ensures.history (noted _ _ m _ _ _ _ (λ image is. wider_image _ _ _ image (λ i had. absurd (none i had)) is))

pub returns-in-At-clause-torn : goal.returns-in-At-clause-torn
returns-in-At-clause-torn c = grind (arith, common_steps)

pub returns-in-At-clause-time : goal.returns-in-At-clause-time
returns-in-At-clause-time c = λ _.
    let m = c.args.self.now.marked in
    let torn : IsImage m.bytes.items (IsMarked m.pending.items) (with_items m.bytes c.lay.new.bytes).items = grind (arith, common_steps) in
    rw c.note_call.ensures.history (noted _ _ m _ _ _ _ (λ image is. image_of_image _ _ _ _ torn is))

pub returns-in-At-clause-gives : goal.returns-in-At-clause-gives
returns-in-At-clause-gives c = grind (arith, common_steps)
