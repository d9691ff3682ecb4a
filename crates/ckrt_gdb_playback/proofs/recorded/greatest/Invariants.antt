use Rattle.std.proofs.Common.{◌≡◌, drop}
use Rattle.ckrt_gdb_playback.specs.Known.{greatest}
use Rattle.ckrt_gdb_playback.proofs.recorded.greatest.Given as goal

abbrev pub invariant-loop-id : goal.invariant-loop-id
invariant-loop-id l = greatest l.known (drop l.id-index l.ids) ≡ greatest 1 l.ids
