use Rattle.std.proofs.Common.{◌≡◌, ◌+◌, ◌++◌, length}
use Rattle.arrayvec.specs.ArrayVec.{array_vec_len}
use Rattle.ckrt_gdb_forms.specs.Numbers.{hex_text}
use Rattle.ckrt_gdb_forms.proofs.payload.push_hex.Given as goal

abbrev pub invariant-loop-rest : goal.invariant-loop-rest
invariant-loop-rest l = record {
  done : l.out.items ++ hex_text l.rest ≡ l.initial.out.items ++ hex_text l.bytes;
  size : array_vec_len l.out + length (hex_text l.rest) ≡ array_vec_len l.initial.out + length (hex_text l.bytes);
}

abbrev pub decreases-loop-rest : goal.decreases-loop-rest
decreases-loop-rest l = length l.rest
