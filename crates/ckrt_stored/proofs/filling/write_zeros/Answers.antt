use Rattle.std.proofs.Common.{◌≤◌, ◌+◌, ◌∙◌, length, replicate, sym, take, arith}
use Rattle.std.proofs.lemmas.Result.{on_ok_weaker}
use Rattle.ckrt_stored.proofs.FillLemmas.{front_length, written_zeros, zeros_front}
use Rattle.ckrt_stored.proofs.filling.write_zeros.Goals as goal

pub returns-clause-zeros : goal.returns-clause-zeros
returns-clause-zeros g c = on_ok_weaker c.write_part.result (λ written honest.
    let d = g.D.Disk in let s₀ = c.args.disk.now in let s₁ = c.write_part.new.disk in let same = c.write_part.ensures.within.same in
    let long = g.met.D.Disk.whole s₀ (same.honest honest) in
    let room : c.args.at + c.args.count ≤ length (d.content s₀) = omega (arith, c.requires.inside, long) in
    written_zeros (d.content s₀) c.args.at c.args.count (take c.args.count (replicate 4096 0)) (d.content s₁) (written honest) (front_length c.args.count (replicate 4096 0) c.requires.few) room
    (g.met.D.Disk.whole s₁ honest ∙ same.size ∙ sym long) (zeros_front c.args.count 4096)) c.write_part.ensures.written
