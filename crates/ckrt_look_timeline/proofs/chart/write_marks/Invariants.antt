use Rattle.std.proofs.Common.{◌≡◌, ◌≤◌, ◌+◌, drop}
use Rattle.ckrt_look_timeline.specs.Charts.{marks_text}
use Rattle.ckrt_look_timeline.specs.Tracks.{AreUpTo}
use Rattle.ckrt_look_calls.proofs.AppendLemmas.{Completes}
use Rattle.ckrt_look_timeline.proofs.chart.write_marks.Given as goal

abbrev pub invariant-loop-begin : goal.invariant-loop-begin
invariant-loop-begin g l = let has = g.W.Write.contents in record {
  event : l.event ≡ l.chart.first + l.begin-index;
  free : l.free ≤ 4162;
  each : AreUpTo l.chart.steps (drop l.begin-index l.begins);
  text : Completes (has l.fn.out) (has l.out) (marks_text l.form l.chart l.event l.free (drop l.begin-index l.begins)) (marks_text l.form l.chart l.chart.first 0 l.begins);
}
