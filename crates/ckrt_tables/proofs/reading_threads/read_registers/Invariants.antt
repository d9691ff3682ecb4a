use Rattle.ckrt_tables.proofs.RegistersRead.{HasRead}
use Rattle.ckrt_tables.proofs.reading_threads.read_registers.Given as goal

abbrev pub invariant-loop-register : goal.invariant-loop-register
invariant-loop-register l = HasRead l.fn.cursor l.register l.regs l.cursor
