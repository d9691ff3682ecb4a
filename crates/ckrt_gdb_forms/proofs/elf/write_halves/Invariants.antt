use Rattle.std.proofs.Common.{take}
use Rattle.std.specs.Io.KnownBytes.{Appends}
use Rattle.ckrt_gdb_forms.specs.Elf.{halves}
use Rattle.ckrt_gdb_forms.proofs.elf.write_halves.Given as goal

abbrev pub invariant-loop-number : goal.invariant-loop-number
invariant-loop-number g l = Appends (g.W.Write.contents l.fn.out) (g.W.Write.contents l.out) (halves (take l.number-index l.numbers))
