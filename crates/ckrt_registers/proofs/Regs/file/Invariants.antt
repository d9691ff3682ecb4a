use Rattle.std.proofs.Common.{◌≡◌, length, take}
use Rattle.ckrt_registers.proofs.Regs.file.Given as goal

abbrev pub invariant-loop-register : goal.invariant-loop-register
invariant-loop-register l = record {
  size : length l.file ≡ 33;
  same : take l.register l.file ≡ take l.register l.self.x;
}
