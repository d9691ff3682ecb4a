use Rattle.ckrt_hunt_schedules.proofs.LineLemmas.{heard_more}
use Rattle.ckrt_hunt_schedules.proofs.last_line.LastLine.hear.Goals as goal

-- one byte more
pub loop-byte-preserved : goal.loop-byte-preserved
loop-byte-preserved c = heard_more c.args.bytes.now c.loop-byte.byte-index _ c.args.self.now c.loop-byte.self c.hear_byte.new.self c.loop-byte-test.true c.loop-byte.invariant c.hear_byte.ensures
