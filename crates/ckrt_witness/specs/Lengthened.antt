-- What meets the premises of the laws of a disk that is made longer.
use Rattle.std.specs.Prelude.{◌≡◌, ◌<◌, ℕ, List, [], Some, length}
use Rattle.ckrt_disk.specs.declared.disk.Disk.{Ghosts}
use Rattle.ckrt_drive.specs.Lengthening.{IsLengthened, IsLonger}
use Rattle.ckrt_drive.specs.Together.{Past, StandTogether, StandsFed}
use Rattle.ckrt_stored.specs.Programs.{Program, RecoversToStart}

-- a disk with these bytes, of which nothing is pending, that was formatted with the program, and one that has zeros after them
pub record Lengthens {D : Type 0} (d : Ghosts D) (p : Program) (old longer : D) : Type 0 where
  pub honest : d.is_honest old
  pub formatted : RecoversToStart p (d.content old)
  pub settled : (i : ℕ) → ¬ d.pending old i
  pub settled_longer : (i : ℕ) → ¬ d.pending longer i
  pub zeros : IsLonger (d.content old) (d.content longer)
  pub more : length (d.content old) < length (d.content longer)

-- such disks with an output, for which all premises hold, with this input
pub record LongerWitness {D O : Type 0} (d : Ghosts D) (o : Ghosts O) (file : List ℕ) : Type 0 where
  pub program : Program
  pub past : Past
  pub old : D
  pub left : D
  pub output : O
  pub disks : Lengthens d program old left
  pub lengthened : IsLengthened d old left
  pub stands : StandTogether d o past old output
  pub fed : StandsFed d (Some file) past old
