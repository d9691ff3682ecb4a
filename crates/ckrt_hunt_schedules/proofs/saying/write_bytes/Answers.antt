use Rattle.ckrt_hunt_schedules.specs.Table.{byte_text}
use Rattle.ckrt_hunt_schedules.proofs.AppendLemmas.{appends_more}
use Rattle.ckrt_hunt_schedules.proofs.saying.write_bytes.Goals as goal

-- one byte more
pub loop-byte-preserved : goal.loop-byte-preserved
loop-byte-preserved g c =
    let has = g.W.Write.contents in
    appends_more byte_text c.args.bytes.now c.loop-byte.byte-index _ (has c.args.out.now) (has c.loop-byte.out) (has c.write_byte.new.out) c.loop-byte-test.true c.loop-byte.invariant c.in_ok-write_byte.ensures
