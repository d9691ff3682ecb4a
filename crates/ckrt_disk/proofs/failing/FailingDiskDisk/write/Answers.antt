use Rattle.std.proofs.Common.{◌≤◌, ◌+◌, length, inl, inr, arith}
use Rattle.ckrt_disk.proofs.Images.{written_image, image_of_image}
use Rattle.ckrt_disk.proofs.Moments.{noted}
use Rattle.ckrt_disk.proofs.failing.FailingDiskDisk.write.Goals as goal

pub returns-in-Ok-clause-time : goal.returns-in-Ok-clause-time
returns-in-Ok-clause-time g c = λ honest.
    let room : c.args.at + length c.args.bytes.now ≤ length (g.D.Disk.content c.args.self.now.inner.disk) = omega (arith, c.requires, g.met.D.Disk.whole c.args.self.now.inner.disk (c.in-Ok.ensures.honest honest)) in
    rw c.with.ensures (noted _ _ _ _ _ _ _ (λ image is. image_of_image _ _ _ _ (written_image _ _ _ _ (c.in-Ok.ensures.written honest) room _ (λ i within. inl ((c.in-Ok.ensures.pending honest i).1 (inr within)))) is))
