-- What the definitions give for worked values.
use Rattle.std.proofs.Common.{refl}
use Rattle.ckrt_gdb_forms.specs.Worked.{WorkedCores}

pub worked_cores : WorkedCores
worked_cores = record {
  header = refl;
  notes = refl;
  memory = refl;
  note = refl;
  size = refl;
  signal = refl;
  id = refl;
  pc = refl;
  x1 = refl;
  x2 = refl;
  x31 = refl;
  faulted = refl;
  exited = refl;
}
