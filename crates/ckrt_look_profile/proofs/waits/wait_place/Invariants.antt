use Rattle.std.proofs.Common.{◌≡◌, ◌+◌, drop}
use Rattle.ckrt_look_profile.specs.Waits.{wait_place}
use Rattle.ckrt_look_profile.proofs.waits.wait_place.Given as goal

-- none of the rows before is the one that is looked for
abbrev pub invariant-loop-place : goal.invariant-loop-place
invariant-loop-place l = wait_place l.thread l.awaited l.rows ≡ l.place + wait_place l.thread l.awaited (drop l.place l.rows)
