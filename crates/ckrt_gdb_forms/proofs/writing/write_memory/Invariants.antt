use Rattle.std.proofs.Common.{◌*◌, ◌-◌, take}
use Rattle.std.specs.Io.KnownBytes.{Appends}
use Rattle.ckrt_gdb_forms.proofs.writing.write_memory.Given as goal

abbrev pub invariant-loop-page : goal.invariant-loop-page
invariant-loop-page g l = Appends (g.W.Write.contents l.fn.out) (g.W.Write.contents l.out) (take (4096 * (l.page - 1)) l.memory.bytes)
