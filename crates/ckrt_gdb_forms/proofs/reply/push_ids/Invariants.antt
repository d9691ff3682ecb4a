use Rattle.std.proofs.Common.{◌≡◌, ◌+◌, ◌++◌, length}
use Rattle.arrayvec.specs.ArrayVec.{array_vec_len}
use Rattle.ckrt_gdb_forms.specs.Replies.{ids_text}
use Rattle.ckrt_gdb_forms.proofs.reply.push_ids.Given as goal

abbrev pub invariant-loop-rest : goal.invariant-loop-rest
invariant-loop-rest l = record {
  done : l.out.items ++ ids_text l.rest ≡ l.initial.out.items ++ ids_text l.ids;
  size : array_vec_len l.out + length (ids_text l.rest) ≡ array_vec_len l.initial.out + length (ids_text l.ids);
}

abbrev pub decreases-loop-rest : goal.decreases-loop-rest
decreases-loop-rest l = length l.rest
