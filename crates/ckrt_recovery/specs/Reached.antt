-- Which sessions the public calls make, and what they have beside the list of events that fits them.
use Rattle.std.specs.Prelude.{◌≡◌, ◌≤◌, ◌++◌, ℕ, true, false, List, [], ◌∷◌, length, drop, Option, Some, None, Ok, ⊤}
use Rattle.ckrt_disk.specs.Disk.{IsImage, LeavesOnly}
use Rattle.ckrt_disk.specs.declared.disk.Disk.{Ghosts}
use Rattle.ckrt_events.specs.Bytes.{encodings_of}
use Rattle.ckrt_events.specs.declared.event.Event.{Event}
use Rattle.ckrt_machine.specs.Events.{AllAccepted}
use Rattle.ckrt_stored.specs.Programs.{Program, start_of, state_after, output_after, RecoversTo}
use Rattle.ckrt_recovery.specs.Represents.{RecoversLike, RecoversToEither, Represents, RepresentsDisk, RepresentsOneMore, RepresentsSame, acknowledged_of}
use Rattle.ckrt_recovery.specs.declared.session.Session.{Session}

-- These events fit the session: those after the acknowledged ones are pending, the machine is the plain fold over them, and whatever a stop
-- leaves of the disk recovers to the acknowledged ones; where the session has failed, to these or to all. (Represents has two facts more.)
pub record Fits {D : Type 0} {g : Ghosts D} (p : Program) (events : List Event) (s : Session D g)
    : Type 0 where
  pub config : s.progress.config ≡ p.config
  pub acknowledged : s.acknowledged ≤ length events
  pub count : s.progress.count ≡ length events
  pub pending : s.pending.items ≡ encodings_of (drop s.acknowledged events)
  pub accepted : AllAccepted events (start_of p)
  pub state : s.progress.machine.state ≡ state_after p events
  pub released : s.released ≡ length (output_after p (acknowledged_of events s))
  pub held : s.progress.held.items ≡ drop s.progress.confirmed (output_after p events)
  pub images : s.failed ≡ false → (image : List ℕ)
      → IsImage (g.content s.disk) (g.pending s.disk) image → RecoversLike p events s image
  pub failed : s.failed ≡ true → (image : List ℕ)
      → IsImage (g.content s.disk) (g.pending s.disk) image → RecoversToEither p events s image

-- A public call of a session: the event that it accepted, if it is a submit that did, and the session after it.
pub record Call {D : Type 0} (g : Ghosts D) : Type 0 where
  pub event : Option Event
  pub after : Session D g

-- what the contract of a submit that is Ok says of the events, and that of every other call and answer
abbrev pub Takes : {D : Type 0} {g : Ghosts D} → Session D g → Option Event → Session D g → Type 0
Takes {g = g} old None new = g.is_honest new.disk → RepresentsSame old new
Takes old (Some e) new = RepresentsOneMore {X = Unit {0}} {E = Unit {0}} old e (Ok tt) new

-- these calls are made one after another, and the disk is honest all along
abbrev pub AreCalls : {D : Type 0} {g : Ghosts D} → Session D g → List (Call g) → Type 0
AreCalls s [] = ⊤
AreCalls {g = g} s (c ∷ calls) = g.is_honest c.after.disk × (Takes s c.event c.after × AreCalls c.after calls)

-- the session after them
abbrev pub behind : {D : Type 0} {g : Ghosts D} → Session D g → List (Call g) → Session D g
behind s [] = s
behind s (c ∷ calls) = behind c.after calls

abbrev pub event_and : Option Event → List Event → List Event
event_and None es = es
event_and (Some e) es = e ∷ es

-- the events that they accepted
abbrev pub accepted_by : {D : Type 0} {g : Ghosts D} → List (Call g) → List Event
accepted_by [] = []
accepted_by (c ∷ calls) = event_and c.event (accepted_by calls)

-- The public calls make the session, with these events: recovery gave a session for a disk that recovers to the first of them, and calls of
-- that session accepted the others.
pub record IsReached {D : Type 0} {g : Ghosts D} (p : Program) (events : List Event)
    (s : Session D g) : Type 0 where
  -- the disk that was recovered, to these events
  pub disk : D
  pub recovered : List Event
  pub limit : ℕ
  pub recovers : RecoversTo p recovered limit (g.content disk)
  -- the session that it gave
  pub first : Session D g
  pub honest : g.is_honest first.disk
  pub given : RepresentsDisk disk first
  -- the calls of it
  pub calls : List (Call g)
  pub made : AreCalls first calls
  pub last : behind first calls ≡ s
  pub all : recovered ++ accepted_by calls ≡ events

-- whatever events the public calls make the session with, it represents them
abbrev pub RepresentsItsCalls : {D : Type 0} {g : Ghosts D} → Session D g → Type 0
RepresentsItsCalls s =
    (p : Program) (events : List Event) → IsReached p events s → Represents p events s

-- and they fit it
abbrev pub FitsItsCalls : {D : Type 0} {g : Ghosts D} → Session D g → Type 0
FitsItsCalls s = (p : Program) (events : List Event) → IsReached p events s → Fits p events s

-- The promise on power loss, of a session that the public calls make: on an honest disk whatever a stop at any moment from old to new leaves
-- recovers to the acknowledged events, or to all.
abbrev pub SurvivesCall : {D : Type 0} {g : Ghosts D} → (old new : Session D g) → Type 0
SurvivesCall {g = g} old new = g.is_honest new.disk → (p : Program) (events : List Event) → IsReached p events old
    → LeavesOnly g.moment g.left_since old.disk new.disk (RecoversToEither p events old)
