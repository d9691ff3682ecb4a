-- What meets the premises of the law of how long the file of an output is.
use Rattle.std.specs.Prelude.{◌≡◌, ◌<◌, ℕ, true, List, is_some}
use Rattle.ckrt_disk.specs.declared.disk.Disk.{Ghosts}
use Rattle.ckrt_drive.specs.Runs.{IsAllSaved}
use Rattle.ckrt_events.specs.declared.event.Event.{Event}
use Rattle.ckrt_recovery.specs.Represents.{Represents}
use Rattle.ckrt_recovery.specs.View.{view_of}
use Rattle.ckrt_cli_reports.specs.Lengths.{fits, lengths_of}
use Rattle.ckrt_stored.specs.Programs.{Program}
use Rattle.ckrt_cli.specs.Runs.{ProgramRun}

-- A run with an input that came to its end, where all is saved. The file of its output had a length that fitted its disk, and has more bytes then.
pub record LengthWitness {D O : Type 0} (d : Ghosts D) (o : Ghosts O) (size : ℕ) : Type 0 where
  pub run : ProgramRun d o
  pub fed : is_some run.left.input ≡ true
  pub honest : d.is_honest run.after.disk
  pub program : Program
  pub events : List Event
  pub represents : Represents program events run.before
  pub fit : fits (lengths_of size run.before) ≡ true
  pub saved : IsAllSaved (view_of run.after)
  pub longer : size < run.after.released
