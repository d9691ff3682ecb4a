use Rattle.std.proofs.Common.{take}
use Rattle.std.specs.List.{flat_map}
use Rattle.std.specs.Io.KnownBytes.{Appends}
use Rattle.ckrt_hunt_schedules.specs.Table.{byte_text}
use Rattle.ckrt_hunt_schedules.proofs.saying.write_bytes.Given as goal

-- the bytes so far are told
abbrev pub invariant-loop-byte : goal.invariant-loop-byte
invariant-loop-byte g l = Appends (g.W.Write.contents l.fn.out) (g.W.Write.contents l.out) (flat_map byte_text (take l.byte-index l.bytes))
