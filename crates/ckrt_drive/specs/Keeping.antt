-- What a session keeps of its events, whatever a stop leaves of its disk; and so what they took of its input.
use Rattle.std.specs.Prelude.{◌≡◌, ◌⊎◌, ◌+◌, ◌-◌, ℕ, Bool, true, false, List, [], ◌∷◌, ◌++◌, is_some, Result}
use Rattle.ckrt_disk.specs.Disk.{IsWithin, LeavesOnly}
use Rattle.ckrt_disk.specs.Frame.{MayBeLeft, WritesWithin}
use Rattle.ckrt_disk.specs.declared.disk.Disk.{Ghosts}
use Rattle.ckrt_stored.specs.Write.{WritesAt}
use Rattle.ckrt_events.specs.declared.event.Event.{Event}
use Rattle.ckrt_stored.specs.Programs.{Program}
use Rattle.ckrt_stored.specs.Progress.{recovered_of}
use Rattle.ckrt_recovery.specs.Calls.{Commits, Journals, checkpoint_calls, checkpoint_refusal, dirty_of, is_device}
use Rattle.ckrt_recovery.specs.Opening.{IsSettled}
use Rattle.ckrt_recovery.specs.Represents.{RecoversAtAnyMoment, Represents, RepresentsDisk, RepresentsSame, acknowledged_of}
use Rattle.ckrt_recovery.specs.View.{opened, view_of}
use Rattle.ckrt_recovery.specs.declared.fault.CommitFault.{CommitFault}
use Rattle.ckrt_recovery.specs.declared.session.Session.{Session}
use Rattle.ckrt_schedule.specs.Taken.{taken_by}
use Rattle.ckrt_drive.specs.Fed.{IsFed, RecoversFed}
use Rattle.ckrt_drive.specs.Slot.{SLOT_BYTES, slot_at}

-- Whatever a stop leaves has this of the acknowledged ones of these events; where the session has failed, of these or of all.
pub record KeepsOf {D : Type 0} {g : Ghosts D} (Has : List Event → List ℕ → Type 0)
    (events : List Event) (s : Session D g) : Type 0 where
  pub running : s.failed ≡ false → (image : List ℕ) → MayBeLeft g s.disk image
      → Has (acknowledged_of events s) image
  pub failed : s.failed ≡ true → (image : List ℕ) → MayBeLeft g s.disk image
      → Has (acknowledged_of events s) image ⊎ Has events image

-- INPUT

-- whatever a stop leaves keeps what these events took
abbrev pub KeepsInput : {D : Type 0} {g : Ghosts D} → List Event → Session D g → Type 0
KeepsInput events s = KeepsOf IsFed events s

-- the session represents these events, and keeps what they took
abbrev pub RepresentsFed : {D : Type 0} {g : Ghosts D} → Program → List Event → Session D g → Type 0
RepresentsFed p events s = Represents p events s × KeepsInput events s

-- an image recovers to the acknowledged ones of these events or to all, and keeps what just these took
abbrev pub RecoversFedEither : {D : Type 0} {g : Ghosts D} → Program → List Event → Session D g
    → (image : List ℕ) → Type 0
RecoversFedEither p events s image =
    RecoversFed p (acknowledged_of events s) s.progress.confirmed image
    ⊎ RecoversFed p events s.progress.confirmed image

-- On an honest disk: whatever events old represents and keeps, a stop at any moment since old leaves what recovers to its acknowledged ones or
-- to all, and keeps what just these took.
abbrev pub KeepsAtAnyMoment : {D : Type 0} {g : Ghosts D} → (old new : Session D g) → Type 0
KeepsAtAnyMoment {g = g} old new = g.is_honest new.disk → (p : Program) (events : List Event) → RepresentsFed p events old
    → LeavesOnly g.moment g.left_since old.disk new.disk (RecoversFedEither p events old)

-- and new represents and keeps them
abbrev pub KeepsSame : {D : Type 0} {g : Ghosts D} → (old new : Session D g) → Type 0
KeepsSame {g = g} old new = g.is_honest new.disk → (p : Program) (events : List Event) → RepresentsFed p events old → RepresentsFed p events new

-- What a checkpoint with a record makes of these events.
pub record IsSaved {D : Type 0} {g : Ghosts D} (p : Program) (events : List Event)
    (old new : Session D g) : Type 0 where
  -- a stop at any moment leaves what recovers to the acknowledged ones or to all, and keeps what just these took
  pub any_moment : LeavesOnly g.moment g.left_since old.disk new.disk
      (RecoversFedEither p events old)
  -- the session after it represents them, and keeps what they took
  pub after : RepresentsFed p events new

-- On an honest disk: so it is of whatever events old represents and keeps, where it was told what they took.
abbrev pub SavesInput : {D : Type 0} {g : Ghosts D} → (taken : ℕ) → (old new : Session D g) → Type 0
SavesInput {g = g} taken old new = g.is_honest new.disk → (p : Program) (events : List Event) → RepresentsFed p events old → taken ≡ taken_by events → IsSaved p events old new

-- Where such a checkpoint writes: the slot of the other area, and what a checkpoint writes.
abbrev pub RecordsAt : {D : Type 0} {g : Ghosts D} → Session D g → ℕ → Type 0
RecordsAt s i =
    IsWithin (slot_at s.progress.config (1 - s.progress.area)) SLOT_BYTES i
    ⊎ WritesAt s.progress.config (1 - s.progress.area) i

-- From old to new the disk was written there alone, by two calls more than a checkpoint makes, unless one failed.
pub record WritesRecord {D : Type 0} {g : Ghosts D} (old : Session D g)
    (result : Result ℕ CommitFault) (new : Session D g) : Type 0 where
  -- whether the gate of the other area was open
  pub was_open : Bool
  -- the calls, where the checkpoint is refused for no reason
  pub calls : ℕ
  pub many : is_some (checkpoint_refusal (view_of old)) ≡ false
      → calls ≡ checkpoint_calls (view_of old) (dirty_of old) was_open + 2
  pub none : is_some (checkpoint_refusal (view_of old)) ≡ true → calls ≡ 0
  pub within : WritesWithin g (RecordsAt old) calls old.disk new.disk (is_device result)

-- OTHER CALLS

-- what a session says of a commit, with its answer
pub record IsCommit {D : Type 0} {g : Ghosts D} (old : Session D g) (result : Result ℕ CommitFault)
    (new : Session D g) : Type 0 where
  pub any_moment : RecoversAtAnyMoment old new
  pub represents : g.is_honest new.disk → RepresentsSame old new
  pub journals : Journals old result new
  pub commits : Commits old result new
  pub honest : g.is_honest new.disk → g.is_honest old.disk

-- what it says of an event that it takes
pub record IsSubmit {D : Type 0} {g : Ghosts D} (old : Session D g) (e : Event) (new : Session D g)
    : Type 0 where
  pub represents : (p : Program) (events : List Event) → Represents p events old
      → Represents p (events ++ e ∷ []) new
  pub acknowledged : new.acknowledged ≡ old.acknowledged
  pub running : (old.failed ≡ false) × (new.failed ≡ false)
  pub disk : new.disk ≡ old.disk

-- what it says of output that it lends, and of output that is confirmed
pub record IsAside {D : Type 0} {g : Ghosts D} (old new : Session D g) : Type 0 where
  pub represents : RepresentsSame old new
  pub acknowledged : new.acknowledged ≡ old.acknowledged
  pub failed : new.failed ≡ old.failed
  pub disk : new.disk ≡ old.disk

-- what recovery says of a session
pub record IsOpened {D : Type 0} {g : Ghosts D} (disk : D) (s : Session D g) : Type 0 where
  pub represents : RepresentsDisk disk s
  pub view : view_of s ≡ opened (recovered_of s.progress)
  pub settled : IsSettled g disk s.disk

-- a commit keeps what the events took, at any moment and after it
abbrev pub CommitsKeep : {D : Type 0} {g : Ghosts D} → (old new : Session D g) → Type 0
CommitsKeep old new =
    (result : Result ℕ CommitFault) → IsCommit old result new
    → KeepsAtAnyMoment old new × KeepsSame old new

-- so does a submit, of the events with one more
abbrev pub SubmitsKeep : {D : Type 0} {g : Ghosts D} → (old new : Session D g) → Type 0
SubmitsKeep old new =
    (e : Event) (p : Program) (events : List Event) → IsSubmit old e new
    → RepresentsFed p events old → RepresentsFed p (events ++ e ∷ []) new

-- and so do calls that leave the disk
abbrev pub AsidesKeep : {D : Type 0} {g : Ghosts D} → (old new : Session D g) → Type 0
AsidesKeep old new =
    (p : Program) (events : List Event) → IsAside old new → RepresentsFed p events old
    → RepresentsFed p events new

-- a session keeps what the disk kept that was recovered
abbrev pub OpeningsKeep : {D : Type 0} {g : Ghosts D} → (disk : D) → Session D g → Type 0
OpeningsKeep {g = g} disk s = IsOpened disk s → g.is_honest s.disk → (p : Program) (events : List Event) (limit : ℕ) → RecoversFed p events limit (g.content disk) → RepresentsFed p events s
