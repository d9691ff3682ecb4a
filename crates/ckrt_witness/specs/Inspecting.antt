-- What meets the premises of the clauses of the inspector.
use Rattle.std.specs.Prelude.{◌≡◌, ℕ, List, Option, Some, Ok, Err, Result}
use Rattle.ckrt_disk.specs.Disk.{HasFailed}
use Rattle.ckrt_disk.specs.Frame.{IsOnlyRead}
use Rattle.ckrt_disk.specs.declared.disk.Disk.{Ghosts}
use Rattle.ckrt_inspect.specs.Inspect.{Tells, is_device}
use Rattle.ckrt_inspect.specs.declared.fault.InspectFault.{InspectFault}
use Rattle.ckrt_inspect.specs.declared.fault.InspectFault.TheVariants.{Device, NotFormatted, Range}
use Rattle.ckrt_inspect.specs.declared.shown.Shown.{Shown}

-- A disk that was inspected with this answer. It keeps the disk model.
pub record Inspected {D : Type 0} (d : Ghosts D) (result : Result (Unit {0}) InspectFault)
    : Type 0 where
  pub disk : D
  pub shown : Shown
  pub end : D
  pub honest : d.is_honest end
  pub old : List ℕ
  pub new : List ℕ
  pub read : IsOnlyRead d disk end (is_device result)
  pub tells : Tells shown (d.content disk) (Some old) (Some new) result

-- a disk that is listed, one that has no state after so many events, one that isn't formatted, and one that fails a read
pub record InspectWitness {D : Type 0} (d : Ghosts D) : Type 0 where
  pub listed : Inspected d (Ok tt)
  pub range : Inspected d (Err Range)
  pub not_formatted : Inspected d (Err NotFormatted)
  pub fails : Inspected d (Err Device)
  pub grew : HasFailed (d.failures fails.disk) (d.failures fails.end)
