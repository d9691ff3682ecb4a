use Rattle.std.proofs.Common.{◌≡◌, ◌+◌, ◌*◌, ◌≤◌, drop, length}
use Rattle.ckrt_thread.specs.Queues.{named_by_all}
use Rattle.ckrt_thread.proofs.queues.named_by_all.Given as goal

-- the queues from the place on have been counted
abbrev pub invariant-loop-place : goal.invariant-loop-place
invariant-loop-place l = record {
  counted : l.count ≡ named_by_all (drop l.place l.queues);
  few : l.count + 255 * l.place ≤ 255 * length l.queues;
}
