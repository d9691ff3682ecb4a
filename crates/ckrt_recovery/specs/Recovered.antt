-- A disk that was recovered, as a drive begins with it.
use Rattle.std.specs.Prelude.{◌≡◌, ℕ, List, false, Ok}
use Rattle.ckrt_disk.specs.declared.disk.Disk.{Ghosts}
use Rattle.ckrt_events.specs.declared.event.Event.{Event}
use Rattle.ckrt_stored.specs.Programs.{Program, RecoversTo}
use Rattle.ckrt_stored.specs.Progress.{recovered_of}
use Rattle.ckrt_stored.specs.Recovery.{Recovers}
use Rattle.ckrt_recovery.specs.Opening.{IsSyncedAndRead}
use Rattle.ckrt_recovery.specs.Represents.{Represents}
use Rattle.ckrt_recovery.specs.View.{opened, view_of}
use Rattle.ckrt_recovery.specs.declared.session.Session.{Session}

-- the session is what the disk's content recovers to
pub record IsRecovered {D : Type 0} (d : Ghosts D) (start : D) (s : Session D d) : Type 0 where
  pub content : d.is_honest s.disk → Recovers (d.content start) (Ok (recovered_of s.progress))
  pub view : view_of s ≡ opened (recovered_of s.progress)
  -- so what a drive says of a list of events it says of the one that the content recovers to
  pub represents : d.is_honest s.disk → (p : Program) (events : List Event) (limit : ℕ)
      → RecoversTo p events limit (d.content start) → Represents p events s
  pub disk : IsSyncedAndRead d start s.disk false
