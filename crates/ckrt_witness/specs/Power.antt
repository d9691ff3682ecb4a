-- What meets the premises of the promise on power loss.
use Rattle.std.specs.Prelude.{◌≡◌, ◌<◌, List, length}
use Rattle.ckrt_disk.specs.declared.disk.Disk.{Ghosts}
use Rattle.ckrt_events.specs.declared.event.Event.{Event}
use Rattle.ckrt_recovery.specs.Reached.{IsReached}
use Rattle.ckrt_recovery.specs.Represents.{RecoversAtAnyMoment}
use Rattle.ckrt_recovery.specs.declared.session.Session.{Session}
use Rattle.ckrt_stored.specs.Programs.{Program}

-- a session before a call and after it, which acknowledges an event that wasn't acknowledged before, for which all premises hold
pub record PowerWitness {D : Type 0} (d : Ghosts D) (p : Program) : Type 0 where
  pub events : List Event
  pub old : Session D d
  pub new : Session D d
  pub reached : IsReached p events old
  pub call : RecoversAtAnyMoment old new
  pub honest : d.is_honest new.disk
  pub pending : old.acknowledged < length events
  pub acknowledges : new.acknowledged ≡ length events
