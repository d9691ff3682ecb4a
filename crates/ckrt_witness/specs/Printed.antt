-- What meets the premises of the laws of runs, and of what a reader of their lines is told.
use Rattle.std.specs.Prelude.{◌≡◌, ◌≢◌, ◌<◌, ℕ, List, [], Some, Ok}
use Rattle.ckrt_disk.specs.Disk.{HasFailed}
use Rattle.ckrt_disk.specs.declared.disk.Disk.{Ghosts}
use Rattle.ckrt_recovery.specs.Accepts.{Accepts}
use Rattle.ckrt_events.specs.declared.event.Event.{Event}
use Rattle.ckrt_cli_disk.specs.Printing.{HoldsEvents}
use Rattle.ckrt_cli_disk.specs.Running.{IsUnrecovered, Serves, ServesAll}
use Rattle.ckrt_main.specs.Service.{Processes}
use Rattle.ckrt_cli_reports.specs.declared.fault.JobFault.TheVariants.{Recover}
use Rattle.ckrt_recovery.specs.Represents.{Represents}
use Rattle.ckrt_recovery.specs.declared.session.Session.{Session}
use Rattle.ckrt_stored.specs.Programs.{Program}
use Rattle.ckrt_stored.specs.Recovery.{Recovered, Recovers}
use Rattle.ckrt_stored.specs.declared.fault.RecoverFault.TheVariants.{Device}

-- A run of a disk that held events: no call of the disk failed, lines were served to their end, and a text was written.
pub record PrintedWitness {D : Type 0} (d : Ghosts D) (p : Program) : Type 0 where
  pub before : List Event
  pub some_before : before ≢ []
  pub start : D
  pub holds : HoldsEvents d p before start
  pub end : D
  pub honest : d.is_honest end
  pub well : ¬ HasFailed (d.failures start) (d.failures end)
  pub lines : List ℕ
  pub some_lines : lines ≢ []
  pub text : List ℕ
  pub some_text : text ≢ []
  -- lines that weren't read, behind a quit
  pub left : List ℕ
  pub serves : Serves d start end (Some []) (Some text) (Some lines) (Some left)
  pub all : ServesAll d start end (Some []) (Some text) (Some lines) (Some left)
  pub recovered : Recovered
  pub recovers : Recovers (d.content start) (Ok recovered)

-- A run of a disk that held events, and failed the recovery: its lines weren't read.
pub record UnrecoveredWitness {D : Type 0} (d : Ghosts D) (p : Program) : Type 0 where
  pub before : List Event
  pub some_before : before ≢ []
  pub start : D
  pub holds : HoldsEvents d p before start
  pub end : D
  pub honest : d.is_honest end
  pub failed : HasFailed (d.failures start) (d.failures end)
  pub lines : List ℕ
  pub some_lines : lines ≢ []
  pub unrecovered : IsUnrecovered d start end (Some []) (Some []) (Some lines) (Some lines) (Recover Device)

-- A service that acknowledged events and wrote a text, and another one of the same session behind it. A stop within the second left an image.
pub record ToldWitness {D : Type 0} (d : Ghosts D) (p : Program) : Type 0 where
  pub events : List Event
  pub before : Session D d
  pub represents : Represents p events before
  pub after : Session D d
  pub lines : List ℕ
  pub text : List ℕ
  pub some_text : text ≢ []
  pub left : List ℕ
  pub service : Processes (Some []) (Some text) (Some lines) (Some left) before after
  pub committed : before.acknowledged < after.acknowledged
  pub printed : before.progress.confirmed < after.progress.confirmed
  pub more : List Event
  pub later : Session D d
  pub goes_on : Accepts more after later
  pub committed_later : after.acknowledged < later.acknowledged
  pub honest_after : d.is_honest after.disk
  pub honest : d.is_honest later.disk
  pub image : List ℕ
  pub left_then : d.left_since later.disk (d.moment after.disk) image
