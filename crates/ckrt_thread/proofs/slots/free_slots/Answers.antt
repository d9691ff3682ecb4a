use Rattle.std.proofs.Common.{arith}
use Rattle.ckrt_thread.proofs.SlotLemmas.{one_more}
use Rattle.ckrt_thread.proofs.slots.free_slots.Goals as goal

pub loop-preserved : goal.loop-preserved
loop-preserved c = record {
  items = grind (arith, one_more, c.loop.invariant.items);
  room = grind (arith, c.loop.invariant.room);
}
