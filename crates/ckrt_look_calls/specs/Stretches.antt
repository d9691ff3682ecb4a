-- A stretch of what a disk has recorded, and what is told of it (this project's choice).
use Rattle.std.specs.Prelude.{◌≡◌, ◌≤◌, ℕ, ◌+◌, ◌-◌, max, List, length, take, drop, Option, Some, None, unwrap_or, Result, Ok, Err}
use Rattle.std.specs.Io.KnownBytes.{Appends}
use Rattle.ckrt_events.specs.declared.event.Event.{Event}
use Rattle.ckrt_machine.specs.Events.{AllAccepted, fold}
use Rattle.ckrt_machine.specs.Steps.{State}
use Rattle.ckrt_stored.specs.Recovery.{Recovers}
use Rattle.ckrt_stored.specs.declared.fault.RecoverFault.TheVariants as recover
use Rattle.ckrt_stored.specs.declared.fault.RecoverFault.{RecoverFault}
use Rattle.ckrt_look_recording.specs.Reading.{RecordsUnreplayed}
use Rattle.ckrt_look_recording.specs.Recording.{HasRecording, Recorded, Records}
use Rattle.ckrt_inspect.specs.declared.fault.InspectFault.{InspectFault}
use Rattle.ckrt_inspect.specs.declared.fault.InspectFault.TheVariants.{NotFormatted, Version, Damaged, Device, OutOfMemory, ShadowFull, Write, Range}
use Rattle.ckrt_look_calls.specs.declared.stretch.Stretch.{Stretch}

-- A STRETCH OF WHAT WAS RECORDED, which is behind `first` events and ends with the one that is the `last`th

-- behind how many events it would begin, and how many there are at its end
abbrev pub from_of : Stretch → (first : ℕ) → ℕ
from_of s first = unwrap_or s.from first

abbrev pub to_of : Stretch → (last : ℕ) → ℕ
to_of s last = unwrap_or s.to last

-- behind how many the last so many begin
abbrev pub lately : (last : Option ℕ) → (to : ℕ) → ℕ
lately None to = 0
lately (Some n) to = to - n

-- behind how many it begins: where only the last so many of its events are asked for, behind those before them
abbrev pub begin_of : Stretch → (first last : ℕ) → ℕ
begin_of s first last = max (from_of s first) (lately s.last (to_of s last))

-- all of it was recorded, and those before its last ones
pub record IsWithin (s : Stretch) (first last : ℕ) : Type 0 where
  pub begins : first ≤ from_of s first
  pub ordered : from_of s first ≤ to_of s last
  pub ends : to_of s last ≤ last

-- how many events there are with the recorded ones
abbrev pub last_of : Recorded → ℕ
last_of r = r.first + length r.events

-- behind how many of them it begins
abbrev pub begin_in : Stretch → Recorded → ℕ
begin_in s r = begin_of s r.first (last_of r)

-- the events before it
abbrev pub before_of : Stretch → Recorded → List Event
before_of s r = take (begin_in s r - r.first) r.events

-- the state that it begins with
abbrev pub state_of : Stretch → Recorded → State
state_of s r = (fold (before_of s r) r.start).state

-- its events
abbrev pub events_of : Stretch → Recorded → List Event
events_of s r =
    take (to_of s (last_of r) - begin_in s r) (drop (begin_in s r - r.first) r.events)

-- READING IT

-- What is read for a stretch that ends there. Where it has an end of its own, events may lie behind it that nobody makes when it's told, so all are
-- made before: what is recorded is known. Else whoever tells it makes them to the last.
abbrev pub RecordsTo : (to : Option ℕ) → List ℕ → Result Recorded RecoverFault → Type 0
RecordsTo (Some to) = Records
RecordsTo None = RecordsUnreplayed

-- GOING THERE

-- it was recorded: it begins behind k events, has the events es, and its state is z; each event before it is accepted at its turn
pub record IsReached (s : Stretch) (r : Recorded) (k : ℕ) (es : List Event) (z : State)
    : Type 0 where
  pub within : IsWithin s r.first (last_of r)
  pub first : k ≡ begin_in s r
  pub events : es ≡ events_of s r
  pub state : z ≡ state_of s r
  pub before : AllAccepted (before_of s r) r.start

-- Not all of it was recorded, though each event is accepted, as is known before where it has an end of its own. Or not each event is accepted at its
-- turn.
abbrev pub IsReachFault : Stretch → Recorded → InspectFault → Type 0
IsReachFault s r Range =
    (IsWithin s r.first (last_of r) → ⊥) × (s.to ≡ None → AllAccepted r.events r.start)
IsReachFault s r Damaged = AllAccepted r.events r.start → ⊥
IsReachFault s r _ = ⊥

-- why nothing is told of events: not each of them is accepted at its turn, they fill the room of a shadow, or the memory or the writer failed
abbrev pub IsEventsFault : (Fills : Type 0) → List Event → State → InspectFault → Type 0
IsEventsFault Fills es s Damaged = AllAccepted es s → ⊥
IsEventsFault Fills es s ShadowFull = Fills
IsEventsFault Fills es s OutOfMemory = Unit {0}
IsEventsFault Fills es s Write = Unit {0}
IsEventsFault Fills es s _ = ⊥

-- WHAT IS TOLD

-- of events that are behind k others, from this state on: which text tells of them, and whether they fill the room of a shadow
pub record Account : Type 1 where
  pub IsText : (k : ℕ) → List Event → State → (text : List ℕ) → Type 0
  pub Fills : (k : ℕ) → List Event → State → Type 0

-- by a look that has no shadow
abbrev pub account : ((k : ℕ) → List Event → State → (text : List ℕ) → Type 0) → Account
account IsText = record { IsText = IsText; Fills = λ k es s. ⊥ }

-- such a text was written
pub record Writes (IsText : List ℕ → Type 0) (old new : Option (List ℕ)) : Type 0 where
  pub text : List ℕ
  pub is : IsText text
  pub written : Appends old new text

-- THAT OF A RECORDING

-- each event before it, and of it, is accepted at its turn, and its text was written
pub record IsToldOf (a : Account) (s : Stretch) (r : Recorded) (old new : Option (List ℕ))
    : Type 0 where
  pub within : IsWithin s r.first (last_of r)
  pub before : AllAccepted (before_of s r) r.start
  pub accepted : AllAccepted (events_of s r) (state_of s r)
  pub writes : Writes (a.IsText (begin_in s r) (events_of s r) (state_of s r)) old new

-- what a fault says of the recording; OutOfMemory and Write say nothing of it
abbrev pub IsTellFault : Account → Stretch → Recorded → InspectFault → Type 0
IsTellFault a s r Range = IsReachFault s r Range
IsTellFault a s r Damaged = IsReachFault s r Damaged
IsTellFault a s r ShadowFull =
    IsWithin s r.first (last_of r) × a.Fills (begin_in s r) (events_of s r) (state_of s r)
IsTellFault a s r OutOfMemory = Unit {0}
IsTellFault a s r Write = Unit {0}
IsTellFault a s r _ = ⊥

-- what was told of a stretch of a recording, or the fault
abbrev pub TellsRecording : Account → Stretch → Recorded → (old new : Option (List ℕ))
    → Result (Unit {0}) InspectFault → Type 0
TellsRecording a s r old new (Ok done) = IsToldOf a s r old new
TellsRecording a s r old new (Err f) = IsTellFault a s r f

-- that of a stretch of what an image has recorded
pub record IsTold (a : Account) (s : Stretch) (image : List ℕ) (old new : Option (List ℕ))
    : Type 0 where
  pub recorded : Recorded
  pub has : HasRecording image recorded
  pub within : IsWithin s recorded.first (last_of recorded)
  pub writes : Writes (a.IsText (begin_in s recorded) (events_of s recorded) (state_of s recorded)) old new

-- the image has something recorded, but not all of the stretch
pub record IsOutside (s : Stretch) (image : List ℕ) : Type 0 where
  pub recorded : Recorded
  pub has : HasRecording image recorded
  pub outside : IsWithin s recorded.first (last_of recorded) → ⊥

-- the stretch of what the image has recorded fills the room of the shadow
pub record IsFilling (a : Account) (s : Stretch) (image : List ℕ) : Type 0 where
  pub recorded : Recorded
  pub has : RecordsTo s.to image (Ok recorded)
  pub within : IsWithin s recorded.first (last_of recorded)
  pub fills : a.Fills (begin_in s recorded) (events_of s recorded) (state_of s recorded)

-- what a fault says of the image; Device, OutOfMemory and Write say nothing of it
abbrev pub IsFaultOf : Account → Stretch → List ℕ → InspectFault → Type 0
IsFaultOf a s image NotFormatted = Recovers image (Err recover.NotFormatted)
IsFaultOf a s image Version = Recovers image (Err recover.Version)
IsFaultOf a s image Damaged = Recovers image (Err recover.Damaged)
IsFaultOf a s image Range = IsOutside s image
IsFaultOf a s image Device = Unit {0}
IsFaultOf a s image OutOfMemory = Unit {0}
IsFaultOf a s image Write = Unit {0}
IsFaultOf a s image ShadowFull = IsFilling a s image

-- what was told of a stretch of an image, or the fault
abbrev pub TellsStretch : Account → Stretch → (image : List ℕ) → (old new : Option (List ℕ))
    → Result (Unit {0}) InspectFault → Type 0
TellsStretch a s image old new (Ok done) = IsTold a s image old new
TellsStretch a s image old new (Err f) = IsFaultOf a s image f
