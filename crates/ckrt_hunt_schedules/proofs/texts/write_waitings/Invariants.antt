use Rattle.std.proofs.Common.{take}
use Rattle.std.specs.List.{flat_map}
use Rattle.std.specs.Io.KnownBytes.{Appends}
use Rattle.ckrt_hunt_schedules.specs.Table.{waiting_text}
use Rattle.ckrt_hunt_schedules.proofs.texts.write_waitings.Given as goal

-- the waits so far are told
abbrev pub invariant-loop-waiting : goal.invariant-loop-waiting
invariant-loop-waiting g l = Appends (g.W.Write.contents l.fn.out) (g.W.Write.contents l.out) (flat_map waiting_text (take l.waiting-index l.waitings))
