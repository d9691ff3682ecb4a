use Rattle.std.proofs.Common.{length}
use Rattle.ckrt_stored.proofs.objects.clear.Given as goal

abbrev pub decreases-loop-input : goal.decreases-loop-input
decreases-loop-input l = length l.input
