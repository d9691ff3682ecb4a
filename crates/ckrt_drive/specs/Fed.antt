-- What an image keeps of the input that the events took to which it recovers.
use Rattle.std.specs.Prelude.{◌≡◌, ℕ, List, [], ◌++◌, length, Some, Ok}
use Rattle.ckrt_events.specs.declared.event.Event.{Event}
use Rattle.ckrt_stored.specs.declared.area.Area.{Area}
use Rattle.ckrt_stored.specs.declared.config.Config.{Config}
use Rattle.ckrt_stored.specs.Programs.{Program, RecoversTo, RecoversToStart}
use Rattle.ckrt_stored.specs.Recovery.{events_of_batches, in_use}
use Rattle.ckrt_schedule.specs.Taken.{taken_by}
use Rattle.ckrt_drive.specs.Offset.{journaled, offset_of, saved_offset}

-- An area has the state after the first of these events, its journal has the others, and it is known how much the first took.
pub record IsFedIn (events : List Event) (c : Config) (area : Area) (image : List ℕ) : Type 0 where
  -- the events that led to the area's state
  pub saved : List Event
  pub count : area.header.count ≡ length saved
  -- what they took
  pub known : saved_offset c area image ≡ Some (taken_by saved)
  -- and those of its journal
  pub batches : List (List ℕ)
  pub chain : journaled c area image ≡ Ok batches
  pub all : events ≡ saved ++ events_of_batches batches

-- So it is of the area in use.
pub record IsFed (events : List Event) (image : List ℕ) : Type 0 where
  pub config : Config
  pub area : Area
  pub used : in_use image ≡ Ok (config, area)
  pub fed : IsFedIn events config area image

-- the image recovers to these events, with output held from an offset on that is at most the limit, and keeps what they took
abbrev pub RecoversFed : Program → List Event → (limit : ℕ) → (image : List ℕ) → Type 0
RecoversFed p events limit image = RecoversTo p events limit image × IsFed events image

-- WHAT FOLLOWS

-- the offset of such an image is what its events took
abbrev pub TellsOffset : Type 0
TellsOffset =
    (events : List Event) (image : List ℕ) → IsFed events image
    → offset_of image ≡ Ok (Some (taken_by events))

-- a freshly formatted disk keeps that no event took any
abbrev pub BeginsFed : Type 0
BeginsFed = (p : Program) (image : List ℕ) → RecoversToStart p image → IsFed [] image

-- it is so of one list only, as far as an image recovers to it: of two that begin each other
abbrev pub FedAsRecovered : Type 0
FedAsRecovered =
    (p : Program) (xs ys : List Event) (limit : ℕ) (image : List ℕ) → RecoversTo p xs limit image
    → IsFed ys image → length xs ≡ length ys
