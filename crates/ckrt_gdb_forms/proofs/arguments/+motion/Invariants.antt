use Rattle.std.proofs.Common.{length}
use Rattle.ckrt_gdb_forms.proofs.arguments.+motion.Given as goal

abbrev pub decreases-motion : goal.decreases-motion
decreases-motion l = length l.actions.now
