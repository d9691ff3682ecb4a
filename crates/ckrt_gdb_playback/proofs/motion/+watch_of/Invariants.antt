use Rattle.std.proofs.Common.{length}
use Rattle.ckrt_gdb_playback.proofs.motion.+watch_of.Given as goal

abbrev pub decreases-watch_of : goal.decreases-watch_of
decreases-watch_of l = length l.watches.now
