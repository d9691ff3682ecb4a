use Rattle.std.proofs.Common.{◌≡◌, ◌+◌, ◌++◌, length}
use Rattle.arrayvec.specs.ArrayVec.{array_vec_len}
use Rattle.ckrt_gdb_playback.specs.Look.{words}
use Rattle.ckrt_gdb_playback.proofs.bytes.push_words.Given as goal

abbrev pub invariant-loop-rest : goal.invariant-loop-rest
invariant-loop-rest l = record {
  done : l.out.items ++ words l.rest ≡ l.initial.out.items ++ words l.numbers;
  size : array_vec_len l.out + length (words l.rest) ≡ array_vec_len l.initial.out + length (words l.numbers);
}

abbrev pub decreases-loop-rest : goal.decreases-loop-rest
decreases-loop-rest l = length l.rest
