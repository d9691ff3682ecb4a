-- What meets the premises of the clauses on drives that a disk or an output fails.
use Rattle.std.specs.Prelude.{◌≡◌, ℕ, List, [], true, Err, Option}
use Rattle.ckrt_disk.specs.Disk.{HasFailed}
use Rattle.ckrt_disk.specs.declared.disk.Disk.{Ghosts}
use Rattle.ckrt_drive.specs.Stages.{Stage, TakesStep}
use Rattle.ckrt_drive.specs.declared.fault.DriveFault.{DriveFault}
use Rattle.ckrt_drive.specs.declared.fault.DriveFault.TheVariants.{Device, Input, Output, OutputFull}
use Rattle.ckrt_drive.specs.declared.options.Options.{Options}
use Rattle.ckrt_drive.specs.Runs.{Runs}
use Rattle.ckrt_events.specs.declared.event.Event.{Event}
use Rattle.ckrt_recovery.specs.Represents.{Represents}
use Rattle.ckrt_recovery.specs.declared.session.Session.{Session}
use Rattle.ckrt_stored.specs.Programs.{Program}

-- A drive of a session that represents events, with this fault behind its last step. Disk and output keep their model.
pub record FailedDrive {D O : Type 0} (d : Ghosts D) (o : Ghosts O) (p : Program) (fault : DriveFault)
    : Type 0 where
  pub options : Options
  pub steps : ℕ
  pub left : ℕ
  pub left' : ℕ
  pub old : Session D d
  pub new : Session D d
  pub output : O
  pub end : O
  pub events : List Event
  pub represents : Represents p events old
  pub runs : Runs o options steps left left' old new output end (Err fault)
  pub honest : d.is_honest new.disk
  pub output_honest : o.is_honest end

-- a drive that its disk fails, one that its output fails, one whose output has no room, and one that its input fails
pub record FailureWitness {D : Type 0} (d : Ghosts D) : Type 0 where
  pub program : Program
  pub by_disk : FailedDrive d d program Device
  pub failed : by_disk.new.failed ≡ true
  pub by_output : FailedDrive d d program Output
  pub grew : HasFailed (d.failures by_output.output) (d.failures by_output.end)
  pub full : FailedDrive d d program OutputFull
  pub by_input : FailedDrive d d program Input
  pub input : D
  pub input_end : D
  pub read_failed : HasFailed (d.failures input) (d.failures input_end)
