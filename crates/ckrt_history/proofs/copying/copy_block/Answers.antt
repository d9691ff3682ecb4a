use Rattle.std.proofs.Common.{◌≡◌, ◌∙◌, false, is_err, length, take, drop, ap, sym, arith, rules}
use Rattle.ckrt_disk.proofs.FrameLemmas.{where_ok}
use Rattle.ckrt_disk.proofs.Images.{written_there}
use Rattle.ckrt_history.proofs.CopyLemmas.{bytes_there}
use Rattle.ckrt_history.proofs.copying.copy_block.Goals as goal

pub returns-clause-copied : goal.returns-clause-copied
returns-clause-copied g c = λ honest writes.
    let d = g.D.Disk in let f = g.F.Disk in let at = c.args.at in let s₀ = c.args.file.now in let s₁ = c.write_part.new.disk in
    let long = g.met.F.Disk.whole s₀ (c.write_part.ensures.within.same.honest writes) in
    let was_read : is_err c.read.result ≡ false = search rules in
    let was_written : is_err c.write_part.result ≡ false = search rules in
    let read = where_ok c.read.result c.read.ensures.bytes was_read honest in
    let size : length c.read.new.buf ≡ 4096 = search rules in
    bytes_there 4096 at (d.content c.args.disk.now) (f.content s₁)
    (ap (λ n. take n (drop at (f.content s₁))) (sym size) ∙ written_there (f.content s₀) at c.read.new.buf (f.content s₁) (where_ok c.write_part.result c.write_part.ensures.written was_written writes) (omega (arith, c.requires.file, long)) ∙ read)
