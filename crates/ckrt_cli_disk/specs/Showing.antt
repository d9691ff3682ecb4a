-- The showing of a disk. What was written goes from a to b.
use Rattle.std.specs.Prelude.{◌≡◌, ℕ, Bool, List, Option, Result, Ok, Err}
use Rattle.ckrt_disk.specs.Frame.{IsOnlyRead}
use Rattle.ckrt_disk.specs.declared.disk.Disk.{Ghosts}
use Rattle.ckrt_inspect.specs.Inspect.{Tells, is_device}
use Rattle.ckrt_inspect.specs.declared.fault.InspectFault.{InspectFault}
use Rattle.ckrt_inspect.specs.declared.shown.Shown.{Shown}
use Rattle.ckrt_cli_reports.specs.declared.fault.JobFault.{JobFault}
use Rattle.ckrt_cli_reports.specs.declared.fault.JobFault.TheVariants as job

-- after how many events, and whether with instructions
abbrev pub shown_of : Option ℕ → Bool → Shown
shown_of at code = record { at = at; with_code = code }

-- what the job answers
abbrev pub answer_of : Result (Unit {0}) InspectFault → Result (Unit {0}) JobFault
answer_of (Ok done) = Ok done
answer_of (Err f) = Err (job.Inspect f)

-- From disk to end the disk was only read. What it tells was written, if it was honest to that end, or the fault is what it says.
pub record Shows {D : Type 0} (d : Ghosts D) (disk end : D) (shown : Shown) (a b : Option (List ℕ))
    (result : Result (Unit {0}) JobFault) : Type 0 where
  pub answer : Result (Unit {0}) InspectFault
  pub gives : result ≡ answer_of answer
  pub read : IsOnlyRead d disk end (is_device answer)
  pub tells : d.is_honest end → Tells shown (d.content disk) a b answer
