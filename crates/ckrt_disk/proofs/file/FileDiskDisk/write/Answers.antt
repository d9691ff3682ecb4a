use Rattle.std.proofs.Common.{◌≤◌, ◌+◌, length, inr, arith}
use Rattle.ckrt_disk.proofs.Images.{written_image, image_of_image}
use Rattle.ckrt_disk.proofs.Moments.{noted}
use Rattle.ckrt_disk.proofs.file.FileDiskDisk.write.Goals as goal

pub returns-in-Ok-clause-time : goal.returns-in-Ok-clause-time
returns-in-Ok-clause-time g c = λ honest.
    let room : c.args.at + length c.args.bytes.now ≤ g.F.PositionedFile.len c.args.self.now.file = omega (arith, c.requires, honest.1, c.in-Ok.ensures.len) in
    let inside : c.args.at + length c.args.bytes.now ≤ length (g.F.PositionedFile.content c.args.self.now.file) = omega (arith, room, g.met.F.PositionedFile.whole c.args.self.now.file (c.in-Ok.ensures.keeps_model honest.0)) in
    rw c.with.ensures (noted _ _ _ _ _ _ _ (λ image is. image_of_image _ _ _ _ (written_image _ _ _ _ (c.in-Ok.ensures.written honest.0 room) inside _ (λ i within. (c.in-Ok.ensures.pending honest.0 i).1 (inr within))) is))
