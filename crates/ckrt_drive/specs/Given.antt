-- What a drive gives its program as input (this project's choice).
use Rattle.std.specs.Prelude.{◌≡◌, ℕ, List, Option, option_map, Result, Ok, Err}
use Rattle.ckrt_disk.specs.Disk.{HasFailed}
use Rattle.ckrt_schedule.specs.Next.{given_in}
use Rattle.ckrt_calls.specs.declared.table.Tables.{Tables}
use Rattle.ckrt_drive.specs.declared.fault.DriveFault.{DriveFault}
use Rattle.ckrt_drive.specs.declared.fault.DriveFault.TheVariants.{Input}
use Rattle.ckrt_drive.specs.declared.supply.Supply.{Supply}

-- how many bytes a program has taken, where there is a file, and so a record of it
abbrev pub record_of : (file : Option (List ℕ)) → (taken : ℕ) → Option ℕ
record_of file taken = option_map (λ bytes. taken) file

-- A step is supplied from a file of which the program has taken that many bytes.
pub record IsSupplied (file : Option (List ℕ)) (taken : ℕ) (s : Tables) (w : Supply) : Type 0 where
  pub given : w.given ≡ given_in file taken s
  pub recorded : w.recorded ≡ record_of file taken

-- the count of failed reads grew where that is the fault, and where there is none it didn't
abbrev pub CountsRead : {X : Type 0} → (before now : ℕ) → Result X DriveFault → Type 0
CountsRead before now (Ok x) = now ≡ before
CountsRead before now (Err fault) = fault ≡ Input → HasFailed before now
