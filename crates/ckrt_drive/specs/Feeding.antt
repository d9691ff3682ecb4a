-- What a drive with an input keeps of what its events took of it.
use Rattle.std.specs.Prelude.{◌≡◌, ◌⊎◌, ◌≤◌, ◌<◌, ◌+◌, ℕ, List, ◌++◌, Option, Some, None, IfSome}
use Rattle.ckrt_stored.specs.Layout.{size_needed}
use Rattle.ckrt_disk.specs.Disk.{LeavesOnly}
use Rattle.ckrt_disk.specs.declared.disk.Disk.{Ghosts}
use Rattle.ckrt_events.specs.declared.event.Event.{Event}
use Rattle.ckrt_stored.specs.Programs.{Program}
use Rattle.ckrt_schedule.specs.Taken.{taken_by}
use Rattle.ckrt_drive.specs.Keeping.{RecoversFedEither, RepresentsFed}
use Rattle.ckrt_drive.specs.Slot.{RECORD_BYTES, TAKEN_LIMIT}
use Rattle.ckrt_recovery.specs.declared.session.Session.{Session}

-- From old to new a session took these events, told that those before took that many bytes of input. Whatever events old represents and keeps
-- the input of, where they took as many, new does with these after them; and a stop at any moment leaves what recovers to the acknowledged
-- ones, or to all that old represents, and keeps what just these took.
pub record Feeds {D : Type 0} {g : Ghosts D} (accepted : List Event)
    (old new : Session D g) (taken : ℕ) : Type 0 where
  pub after : g.is_honest new.disk → (p : Program) (events : List Event)
      → RepresentsFed p events old → taken ≡ taken_by events
      → RepresentsFed p (events ++ accepted) new
  pub any_moment : g.is_honest new.disk → (p : Program) (events : List Event)
      → RepresentsFed p events old → taken ≡ taken_by events
      → LeavesOnly g.moment g.left_since old.disk new.disk (RecoversFedEither p events old)

-- this holds where checkpoints record what was taken
abbrev pub FeedsIfRecorded : {D : Type 0} {g : Ghosts D} → (accepted : List Event)
    → (old new : Session D g) → (recorded : Option ℕ) → Type 0
FeedsIfRecorded accepted old new recorded = IfSome recorded (Feeds accepted old new)

-- the disk has no room for a record of that many bytes, or a slot can't tell that many
abbrev pub LacksRecord : {D : Type 0} {g : Ghosts D} → Session D g → (recorded : Option ℕ) → Type 0
LacksRecord {g = g} s None = ⊥
LacksRecord {g = g} s (Some taken) =
    (g.size s.disk < size_needed s.progress.config + RECORD_BYTES) ⊎ (TAKEN_LIMIT ≤ taken)
