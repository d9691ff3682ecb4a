use Rattle.std.proofs.Common.{length, ◌-◌}
use Rattle.ckrt_gdb_history.proofs.pool.first_free.Given as goal

abbrev pub decreases-loop-slot : goal.decreases-loop-slot
decreases-loop-slot l = length l.named - l.slot
