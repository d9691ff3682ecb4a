use Rattle.std.proofs.Common.{◌≡◌, drop}
use Rattle.ckrt_gdb_playback.specs.Known.{placed}
use Rattle.ckrt_gdb_playback.proofs.recorded.placed.Given as goal

abbrev pub invariant-loop-event : goal.invariant-loop-event
invariant-loop-event l = placed l.known (drop l.event-index l.events) ≡ placed l.least l.events
