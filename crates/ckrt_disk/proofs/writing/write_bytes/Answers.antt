use Rattle.std.proofs.Common.{◌≡◌, drop, rules}
use Rattle.ckrt_disk.proofs.WriteLemmas.{bytes_kept, bytes_more}
use Rattle.ckrt_disk.proofs.writing.write_bytes.Goals as goal
use Rattle.ckrt_disk.proofs.writing.write_bytes.Goals.{in-Ok, in-Err+else-ne}

pub loop-preserved : goal.loop-preserved
loop-preserved g c =
    let i = c.loop.invariant in
    let a = g.W.Write.contents c.args.writer.now in
    let b = g.W.Write.contents c.loop.writer in
    let d = g.W.Write.contents c.write.new.self in
    elim c.match-write.branch [
      | in-Ok w ↦
          let back : w.split_at.result.1.now ≡ drop w.in-Ok.count c.loop.rest.now = search rules in
          rw w.rest-is (record { written = bytes_more a b d w.in-Ok.count c.args.bytes.now i.written.0 c.loop.rest.now w.split_at.result.1.now i.written.1 i.written.2 w.in-Ok.ensures.bytes back })
      | in-Err+else-ne w ↦ rw w.rest-is (record { written = bytes_kept a b d c.args.bytes.now i.written.0 c.loop.rest.now i.written.1 i.written.2 w.in-Err.ensures.bytes })
    ]
