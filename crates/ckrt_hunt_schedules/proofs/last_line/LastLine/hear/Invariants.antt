use Rattle.std.proofs.Common.{◌≡◌, take}
use Rattle.std.specs.List.{fold}
use Rattle.ckrt_hunt_schedules.specs.LastLines.{heard}
use Rattle.ckrt_hunt_schedules.proofs.last_line.LastLine.hear.Given as goal

-- the bytes so far were heard
abbrev pub invariant-loop-byte : goal.invariant-loop-byte
invariant-loop-byte l = l.self ≡ fold heard l.fn.self (take l.byte-index l.bytes)
