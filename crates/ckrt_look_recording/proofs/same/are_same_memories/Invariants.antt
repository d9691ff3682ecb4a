use Rattle.std.proofs.Common.{◌≡◌, ◌*◌, ◌-◌, take, length}
use Rattle.ckrt_look_recording.proofs.same.are_same_memories.Given as goal

-- the pages before this one are the same
abbrev pub invariant-loop-page : goal.invariant-loop-page
invariant-loop-page l = record {
  size : length l.one.bytes ≡ length l.other.bytes;
  same : take (4096 * (l.page - 1)) l.one.bytes ≡ take (4096 * (l.page - 1)) l.other.bytes;
}
