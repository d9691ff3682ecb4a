-- What the definitions give for worked values.
use Rattle.std.proofs.Common.{refl}
use Rattle.std.specs.Fmt.{digits}
use Rattle.hex.specs.Hex.{encode_with}
use Rattle.ckrt_rv32i.specs.Decoding as decoding
use Rattle.ckrt_inspect.specs.Worked.{WorkedInstructions, WorkedLines, WorkedListings}

pub worked_listings : WorkedListings
unfolding encode_with digits
worked_listings = record { input = λ memory x. refl; join = λ memory x y. refl }

pub worked_lines : WorkedLines
unfolding encode_with digits
worked_lines = record {
  exited = refl;
  faulted = refl;
  on_hart = refl;
  ended = refl;
  detached = refl;
  cancelled = refl;
  join = refl;
  mutex = refl;
  retaken = refl;
  retaken_late = refl;
  retaken_to_unwind = refl;
  condition = refl;
  barrier_wait = refl;
  read = refl;
  write = refl;
  input = refl;
  sleep = refl;
  free_mutex = refl;
  owned_mutex = refl;
  normal_mutex = refl;
  barrier = refl;
  written = refl;
  shared = refl;
  keys_off = refl;
  keys = refl;
  value = refl;
}

pub worked_instructions : WorkedInstructions
unfolding encode_with digits decoding.instruction_of
worked_instructions = record { load = refl; back = refl; call = refl; illegal = refl; in_memory = refl; behind_memory = refl; below_memory = refl }
