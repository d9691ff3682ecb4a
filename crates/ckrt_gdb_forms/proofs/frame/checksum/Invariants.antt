use Rattle.std.proofs.Common.{◌≡◌, ◌%◌, take, sum}
use Rattle.ckrt_gdb_forms.proofs.frame.checksum.Given as goal

abbrev pub invariant-loop-byte : goal.invariant-loop-byte
invariant-loop-byte l = l.sum ≡ sum (take l.byte-index l.bytes) % 256
