use Rattle.std.proofs.Common.{◌≡◌, ◌+◌, ◌++◌, length}
use Rattle.arrayvec.specs.ArrayVec.{array_vec_len}
use Rattle.ckrt_gdb_forms.specs.Replies.{escaped}
use Rattle.ckrt_gdb_forms.proofs.payload.push_escaped.Given as goal

abbrev pub invariant-loop-rest : goal.invariant-loop-rest
invariant-loop-rest l = record {
  done : l.out.items ++ escaped l.rest ≡ l.initial.out.items ++ escaped l.bytes;
  size : array_vec_len l.out + length (escaped l.rest) ≡ array_vec_len l.initial.out + length (escaped l.bytes);
}

abbrev pub decreases-loop-rest : goal.decreases-loop-rest
decreases-loop-rest l = length l.rest
