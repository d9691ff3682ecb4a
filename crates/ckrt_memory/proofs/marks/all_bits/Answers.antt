use Rattle.ckrt_memory.proofs.MarkLemmas.{one_more_seen}
use Rattle.ckrt_memory.proofs.marks.all_bits.Goals as goal

pub loop-i-preserved : goal.loop-i-preserved
loop-i-preserved c = record { seen = one_more_seen c.args.marks.now c.loop-i.bits c.loop-i.i c.loop-i.invariant.seen }
