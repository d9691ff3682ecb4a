use Rattle.std.proofs.Common.{◌-◌, ◌++◌}
use Rattle.std.specs.List.{flat_map, range_with_len}
use Rattle.byteorder.specs.Endian.{little_bytes}
use Rattle.ckrt_tables.specs.Records.{register_bytes}
use Rattle.ckrt_tables.specs.Writing.{IsPut}
use Rattle.ckrt_tables.proofs.threads.put_registers.Given as goal

abbrev pub invariant-loop-register : goal.invariant-loop-register
invariant-loop-register l = IsPut l.fn.out l.at (little_bytes 4 l.regs.pc ++ flat_map (register_bytes l.regs) (range_with_len 1 (l.register - 1))) l.out l.end
