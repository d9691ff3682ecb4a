-- Snapshots: the state of a history's program behind so many events, in a file of its own beside the history (this project's own format). A digest
-- says of which bytes of a history it is: SHA-256 (FIPS 180-4).
use Rattle.std.specs.Prelude.{◌≡◌, ◌⊎◌, ◌≤◌, ◌<◌, ◌+◌, ◌-◌, ◌++◌, ◌&&◌, ℕ, Bool, true, false, nat_le, List, [], length, take, drop, None, Result, Ok, Err}
use Rattle.byteorder.specs.Endian.{little_bytes}
use Rattle.sha2.specs.Sha256.{sha256}
use Rattle.ckrt_disk.specs.Frame.{MayBeLeft}
use Rattle.ckrt_disk.specs.declared.disk.Disk.{Ghosts}
use Rattle.ckrt_machine.specs.Events.{AllAccepted, fold}
use Rattle.ckrt_machine.specs.Steps.{State}
use Rattle.ckrt_stored.specs.Layout.{COUNT_LIMIT, is_open, number_at, size_needed}
use Rattle.ckrt_stored.specs.declared.config.Config.{Config}
use Rattle.ckrt_look_recording.specs.Recording.{Recorded}
use Rattle.ckrt_history.specs.Appending.{open_of}
use Rattle.ckrt_history.specs.Completing.{end_of}
use Rattle.ckrt_history.specs.Beginning.{takes_history}
use Rattle.ckrt_history.specs.Excerpts.{laid_state_in}
use Rattle.ckrt_history.specs.Front.{FIELDS_END, config_of}
use Rattle.ckrt_history.specs.History.{HasFault, HasHistory}
use Rattle.ckrt_history.specs.Parting.{IsPart}
use Rattle.ckrt_history.specs.Reads.{AgreesOnFault, Is}
use Rattle.ckrt_history.specs.Sizes.{HasSizes}
use Rattle.ckrt_history.specs.declared.fault.HistoryFault.{HistoryFault}
use Rattle.ckrt_history.specs.declared.fault.HistoryFault.TheVariants as history
use Rattle.ckrt_history.specs.declared.first_state.FirstState.{FirstState}
use Rattle.ckrt_history.specs.declared.opened.OpenHistory.{OpenHistory}
use Rattle.ckrt_history.specs.declared.part_fault.PartFault.{PartFault}
use Rattle.ckrt_history.specs.declared.part_fault.PartFault.TheVariants.{Whole, Unrecorded, Part, TooSmall}
use Rattle.ckrt_history.specs.declared.origin.Origin.{Origin}
use Rattle.ckrt_history.specs.declared.snapshot.Snapshot.{Snapshot}

-- WHAT ONE IS

-- A state behind the first so many events, and of which history: of one with so many first bytes, which have this digest.
pub record SavedState : Type 0 where
  pub first : ℕ
  pub start : State
  pub bytes : ℕ
  pub digest : List ℕ

-- that of a snapshot that was read
abbrev pub saved_in : Snapshot → SavedState
saved_in s = record {
  first = s.first;
  start = s.machine.state;
  bytes = s.bytes;
  digest = s.digest;
}

-- the note in its front
abbrev pub NOTE_AT : ℕ
NOTE_AT = 72

abbrev pub note_of : (bytes : ℕ) → (digest : List ℕ) → List ℕ
note_of bytes digest = little_bytes 8 bytes ++ digest

-- what the beginning of a history is with such a note
abbrev pub saved_with : Recorded → (note : List ℕ) → SavedState
saved_with r note = record {
  first = r.first;
  start = r.start;
  bytes = number_at 8 0 note;
  digest = take 32 (drop 8 note);
}

-- These bytes are one: a history, which begins with that state, and whose front has that note.
pub record HasSnapshot (image : List ℕ) (s : SavedState) : Type 0 where
  pub recorded : Recorded
  pub has : HasHistory image recorded
  pub is : s ≡ saved_with recorded (take 40 (drop NOTE_AT image))

-- these bytes are one, or why they are none
abbrev pub TellsSnapshot : List ℕ → Result SavedState HistoryFault → Type 0
TellsSnapshot image (Ok s) = HasSnapshot image s
TellsSnapshot image (Err e) = HasFault image e

-- WHOSE IT IS

-- the offset of the gate that ends a history
abbrev pub gate_at : OpenHistory → ℕ
gate_at o = o.journal.at + o.journal.next_gate

-- It is of a history with these bytes: the first so many, none of which is behind the gate that ends it, have its digest.
pub record IsOwn (image : List ℕ) (s : SavedState) : Type 0 where
  pub place : OpenHistory
  pub ends : open_of image ≡ Ok place
  pub within : s.bytes ≤ gate_at place
  pub digest : sha256 (take s.bytes image) ≡ s.digest

-- WHAT A LOOK BEGINS WITH

-- it lies between the first of these events and the last one, and not behind a position
abbrev pub is_before : (position : ℕ) → SavedState → Recorded → Bool
is_before position s r =
    nat_le r.first s.first && (nat_le s.first position && nat_le s.first (end_of r))

-- what is recorded from there on
abbrev pub from_snapshot : SavedState → Recorded → Recorded
from_snapshot s r =
    record { first = s.first; start = s.start; events = drop (s.first - r.first) r.events }

-- it is taken
abbrev pub IsTaken : (image : List ℕ) → (position : ℕ) → SavedState → Recorded → Type 0
IsTaken image position s r = (is_before position s r ≡ true) × IsOwn image s

-- what a look at a position goes over: what is recorded from the snapshot on, exactly where that is taken; else all
abbrev pub BeginsBy : (image : List ℕ) → (position : ℕ) → SavedState → (r begun : Recorded)
    → Type 0
BeginsBy image position s r begun =
    (IsTaken image position s r × (begun ≡ from_snapshot s r))
    ⊎ ((IsTaken image position s r → ⊥) × (begun ≡ r))

-- HOW ONE IS SAVED

-- a history without events, which begins with that state
abbrev pub state_alone : (count : ℕ) → State → Recorded
state_alone count state = record { first = count; start = state; events = [] }

-- The bytes of the file are one of that state, and of a history with these bytes, as it ends.
pub record IsSavedOf (whole : List ℕ) (count : ℕ) (state : State) (image : List ℕ) : Type 0 where
  pub place : OpenHistory
  pub ends : open_of whole ≡ Ok place
  pub digest : List ℕ
  pub is_digest : digest ≡ sha256 (take (gate_at place) whole)
  pub is : HasSnapshot image (record {
    first = count;
    start = state;
    bytes = gate_at place;
    digest = digest;
  })

-- its first gate isn't open, so that it's no history; or it begins with that state, whatever its note is
abbrev pub IsClosedOrState : (count : ℕ) → State → List ℕ → Type 0
IsClosedOrState count state image =
    (is_open image ≡ false) ⊎ HasHistory image (state_alone count state)

-- what a stop before might have left of a file, or what this says
abbrev pub IsLeftOr : {F : Type 0} → Ghosts F → F → (List ℕ → Type 0) → List ℕ → Type 0
IsLeftOr f file P image = MayBeLeft f file image ⊎ P image

-- what a stop meanwhile may leave of its file: what a stop before might have left; or that
abbrev pub IsSaving : {F : Type 0} → (count : ℕ) → State → Ghosts F → F → List ℕ → Type 0
IsSaving count state f file = IsLeftOr f file (IsClosedOrState count state)

-- no area of a history with these bytes has that state: it is behind too many events, or has other sizes
abbrev pub IsNotIts : (whole : List ℕ) → (count : ℕ) → State → Type 0
IsNotIts whole count state =
    (COUNT_LIMIT ≤ count)
    ⊎ ((c : Config) × (config_of whole ≡ Ok c) × (HasSizes c state → ⊥))

-- of which history a snapshot is to be, by what is read of one with these bytes; or why it isn't read where that ends
abbrev pub TellsOrigin : (whole : List ℕ) → Result Origin HistoryFault → Type 0
TellsOrigin whole (Ok o) =
    (config_of whole ≡ Ok o.config) × (o.block ≡ take FIELDS_END whole)
    × ((place : OpenHistory) × (open_of whole ≡ Ok place) × (o.bytes ≡ gate_at place))
    × (o.digest ≡ sha256 (take o.bytes whole))
TellsOrigin whole (Err e) = AgreesOnFault e (Is (open_of whole))

-- what one begins with in a file that may grow to so many bytes; or the history can't have that state, or the file is too small
abbrev pub TellsState : Origin → (size count : ℕ) → State → Result FirstState PartFault → Type 0
TellsState o size count state (Ok it) =
    (laid_state_in it ≡ record {
      config = o.config;
      block = o.block;
      first = count;
      state = state;
    })
    × (size_needed o.config < size)
TellsState o size count state (Err (Whole e)) = ⊥
TellsState o size count state (Err Unrecorded) =
    (COUNT_LIMIT ≤ count) ⊎ (HasSizes o.config state → ⊥)
TellsState o size count state (Err (Part e)) = ⊥
TellsState o size count state (Err TooSmall) = size ≤ size_needed o.config

-- What an answer tells of a history with these bytes, and of a file that has so many bytes, may grow to that many, and reads as this. Where a device
-- failed it says nothing of their content.
abbrev pub TellsSaving : {X : Type 0} → (bytes size count : ℕ) → State → (whole file : List ℕ)
    → Result X PartFault → Type 0
TellsSaving bytes size count state whole file (Ok x) = takes_history bytes file ≡ true
TellsSaving bytes size count state whole file (Err (Whole e)) =
    AgreesOnFault e (Is (open_of whole))
TellsSaving bytes size count state whole file (Err Unrecorded) = IsNotIts whole count state
TellsSaving bytes size count state whole file (Err TooSmall) =
    (c : Config) × (config_of whole ≡ Ok c) × (size ≤ size_needed c)
TellsSaving bytes size count state whole file (Err (Part e)) =
    (e ≡ history.Device) ⊎ ((e ≡ history.NotAHistory) × (takes_history bytes file ≡ false))

-- LAWS

-- how a snapshot was saved of a history with these bytes: that had just these events then, and the snapshot has the plain fold's state behind them
pub record IsSavedBehind (whole : List ℕ) (r : Recorded) (s : SavedState) : Type 0 where
  pub has : HasHistory whole r
  pub accepted : AllAccepted r.events r.start
  pub place : OpenHistory
  pub ends : open_of whole ≡ Ok place
  pub bytes : s.bytes ≡ gate_at place
  pub digest : s.digest ≡ sha256 (take s.bytes whole)
  pub first : s.first ≡ end_of r
  pub start : s.start ≡ (fold r.events r.start).state

-- two lists of bytes with one digest are the same
abbrev pub DontCollide : (one other : List ℕ) → Type 0
DontCollide one other = sha256 one ≡ sha256 other → one ≡ other

-- A snapshot that is a history's own begins just the part of it from there on, whenever it was saved; unless its digest is that of other bytes, too.
abbrev pub SnapshotsBeginParts : Type 0
SnapshotsBeginParts =
    (saved now : List ℕ) (r₀ r : Recorded) (s : SavedState) → IsSavedBehind saved r₀ s
    → length now ≡ length saved → HasHistory now r → IsOwn now s
    → DontCollide (take s.bytes now) (take s.bytes saved)
    → IsPart (record { from = s.first; to = None }) r (from_snapshot s r)

-- What was saved of a history that had just these events then is the history's own.
abbrev pub SavedAreOwn : Type 0
SavedAreOwn =
    (whole image : List ℕ) (r : Recorded) (count : ℕ) (state : State)
    → IsSavedOf whole count state image → HasHistory whole r → AllAccepted r.events r.start
    → count ≡ end_of r → state ≡ (fold r.events r.start).state
    → (s : SavedState) × HasSnapshot image s × IsSavedBehind whole r s × IsOwn whole s
