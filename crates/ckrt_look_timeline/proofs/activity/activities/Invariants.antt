use Rattle.std.proofs.Common.{◌≡◌, ◌<◌, ◌+◌, ℕ, get_or, length}
use Rattle.ckrt_look_timeline.specs.declared.piece.Activity.TheVariants as activity
use Rattle.ckrt_look_timeline.specs.Activities.{activity_of}
use Rattle.ckrt_look_timeline.proofs.activity.activities.Given as goal

abbrev pub invariant-loop-index : goal.invariant-loop-index
invariant-loop-index l = record {
  many : length l.now ≡ 64;
  each : (i : ℕ) → i < l.index → get_or l.now i activity.Absent ≡ activity_of l.hart (i + 1) l.threads;
}
