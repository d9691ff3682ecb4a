-- Drives that fail, and their faults.
use Rattle.std.proofs.Common.{◌≡◌, true, subst}
use Rattle.ckrt_disk.specs.Disk.{HasFailed}
use Rattle.ckrt_disk.specs.declared.disk.Disk.{Ghosts}
use Rattle.ckrt_drive.specs.declared.fault.DriveFault.{DriveFault}
use Rattle.ckrt_drive.specs.declared.fault.DriveFault.TheVariants.{Device, Output}
use Rattle.ckrt_stored.specs.Programs.{Program}
use Rattle.ckrt_witness.specs.Stopping.{FailedDrive}

-- a drive with this fault, and what failed
abbrev pub Fails : {D O : Type 0} → Ghosts D → Ghosts O → Program → DriveFault → Type 0
Fails d o p fault =
    (drive : FailedDrive d o p fault) × (fault ≡ Device → drive.new.failed ≡ true)
    × (fault ≡ Output → HasFailed (o.failures drive.output) (o.failures drive.end))

pub with_fault : {D O : Type 0} (d : Ghosts D) (o : Ghosts O) (p : Program) (got want : DriveFault) → got ≡ want → Fails d o p got → Fails d o p want
with_fault d o p got want same run = subst (λ (fault : DriveFault). Fails d o p fault) same run
