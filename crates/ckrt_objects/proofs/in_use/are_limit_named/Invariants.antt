use Rattle.std.proofs.Common.{◌≡◌, ◌≤◌, ◌+◌, drop, length}
use Rattle.ckrt_objects.specs.InUse.{count_in_use}
use Rattle.ckrt_objects.proofs.in_use.are_limit_named.Given as goal

abbrev pub invariant-loop-place : goal.invariant-loop-place
invariant-loop-place g l = record {
  few : l.count ≤ length l.entries + l.place;
  counted : l.count + count_in_use g.T.Named.named (drop l.place l.waits) l.entries ≡ count_in_use g.T.Named.named l.waits l.entries + length l.entries;
}
