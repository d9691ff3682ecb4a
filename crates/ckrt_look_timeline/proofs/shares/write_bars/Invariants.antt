use Rattle.std.proofs.Common.{◌≤◌, ◌+◌, drop}
use Rattle.ckrt_look_timeline.specs.Shares.{bars_from, total}
use Rattle.ckrt_look_calls.proofs.AppendLemmas.{Completes}
use Rattle.ckrt_look_timeline.proofs.shares.write_bars.Given as goal

abbrev pub invariant-loop-share : goal.invariant-loop-share
invariant-loop-share g l = let has = g.W.Write.contents in record {
  within : l.above + total (drop l.share-index l.shares) ≤ l.width;
  text : Completes (has l.fn.out) (has l.out) (bars_from l.begin l.width l.above (drop l.share-index l.shares)) (bars_from l.begin l.width 0 l.shares);
}
