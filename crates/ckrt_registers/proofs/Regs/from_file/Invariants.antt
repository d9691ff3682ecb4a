use Rattle.std.proofs.Common.{◌≡◌, length, take}
use Rattle.ckrt_registers.proofs.Regs.from_file.Given as goal

abbrev pub invariant-loop-register : goal.invariant-loop-register
invariant-loop-register l = record {
  size : length l.x ≡ 32;
  same : take l.register l.x ≡ take l.register l.file;
}
