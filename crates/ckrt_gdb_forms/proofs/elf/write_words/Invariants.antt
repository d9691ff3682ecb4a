use Rattle.std.proofs.Common.{take}
use Rattle.std.specs.Io.KnownBytes.{Appends}
use Rattle.ckrt_gdb_forms.specs.Elf.{words}
use Rattle.ckrt_gdb_forms.proofs.elf.write_words.Given as goal

abbrev pub invariant-loop-number : goal.invariant-loop-number
invariant-loop-number g l = Appends (g.W.Write.contents l.fn.out) (g.W.Write.contents l.out) (words (take l.number-index l.numbers))
