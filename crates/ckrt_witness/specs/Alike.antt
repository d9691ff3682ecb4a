-- What meets the premises of the laws of sessions that answer alike.
use Rattle.std.specs.Prelude.{◌≢◌, ℕ, None, List, []}
use Rattle.ckrt_main.specs.Transcript.{transcript}
use Rattle.ckrt_disk.specs.declared.disk.Disk.{Ghosts}
use Rattle.ckrt_events.specs.declared.event.Event.{Event}
use Rattle.ckrt_main.specs.Alike.{IsAlike, NoneIsLocal}
use Rattle.ckrt_recovery.specs.Represents.{Represents}
use Rattle.ckrt_recovery.specs.View.{view_of}
use Rattle.ckrt_recovery.specs.declared.session.Session.{Session}
use Rattle.ckrt_stored.specs.Programs.{Program}

-- Two sessions over two kinds of disks represent the same events, and both take the event of a line.
pub record AlikeWitness {D E : Type 0} (d : Ghosts D) (e : Ghosts E) (line : List ℕ) : Type 0 where
  pub program : Program
  pub events : List Event
  pub some : events ≢ []
  pub one : Session D d
  pub represents : Represents program events one
  pub other : Session E e
  pub represented_again : Represents program events other
  pub alike : IsAlike (view_of one) (view_of other)
  pub takes : NoneIsLocal (transcript None (view_of one) line).replies
  pub takes_again : NoneIsLocal (transcript None (view_of other) line).replies
  pub some_line : line ≢ []
