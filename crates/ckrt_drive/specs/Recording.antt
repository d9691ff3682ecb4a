-- What the disk of a session has recorded of its events, whatever a stop leaves of it.
use Rattle.std.specs.Prelude.{◌⊎◌, ℕ, List, ◌++◌}
use Rattle.ckrt_disk.specs.Disk.{LeavesOnly}
use Rattle.ckrt_disk.specs.declared.disk.Disk.{Ghosts}
use Rattle.ckrt_events.specs.declared.event.Event.{Event}
use Rattle.ckrt_stored.specs.Programs.{Program}
use Rattle.ckrt_stored.specs.Recorded.{HasRecorded, RecoversRecorded}
use Rattle.ckrt_recovery.specs.Recovered.{IsRecovered}
use Rattle.ckrt_recovery.specs.Represents.{Represents, acknowledged_of}
use Rattle.ckrt_recovery.specs.declared.session.Session.{Session}
use Rattle.ckrt_drive.specs.Keeping.{KeepsOf}

-- whatever a stop leaves has recorded the acknowledged ones of these events; where the session has failed, these or all
abbrev pub KeepsRecorded : {D : Type 0} {g : Ghosts D} → Program → List Event → Session D g
    → Type 0
KeepsRecorded p events s = KeepsOf (HasRecorded p) events s

-- the session represents these events, and its disk has recorded them
abbrev pub RepresentsRecorded : {D : Type 0} {g : Ghosts D} → Program → List Event → Session D g
    → Type 0
RepresentsRecorded p events s = Represents p events s × KeepsRecorded p events s

-- an image recovers to the acknowledged ones of these events or to all, and has recorded just these
abbrev pub RecoversRecordedEither : {D : Type 0} {g : Ghosts D} → Program → List Event
    → Session D g → (image : List ℕ) → Type 0
RecoversRecordedEither p events s image =
    RecoversRecorded p (acknowledged_of events s) s.progress.confirmed image
    ⊎ RecoversRecorded p events s.progress.confirmed image

-- From old to new a session took these events. Whatever events old represents and has recorded, new does with these after them; and a stop at
-- any moment leaves what recovers to the acknowledged ones, or to all that old represents, and has recorded just these.
pub record RecordsEvents {D : Type 0} {g : Ghosts D} (accepted : List Event) (old new : Session D g)
    : Type 0 where
  pub after : g.is_honest new.disk → (p : Program) (events : List Event)
      → RepresentsRecorded p events old → RepresentsRecorded p (events ++ accepted) new
  pub any_moment : g.is_honest new.disk → (p : Program) (events : List Event)
      → RepresentsRecorded p events old
      → LeavesOnly g.moment g.left_since old.disk new.disk (RecoversRecordedEither p events old)

-- LAW

-- a session has recorded what its disk had that was recovered
abbrev pub OpensRecorded : {D : Type 0} → Ghosts D → Type 0
OpensRecorded {D} g =
    (p : Program) (events : List Event) (limit : ℕ) (disk : D) (s : Session D g)
    → IsRecovered g disk s → g.is_honest s.disk
    → RecoversRecorded p events limit (g.content disk) → RepresentsRecorded p events s
