-- What a stop leaves between two moments, and what a reader of the output is told of it.
use Rattle.std.specs.Prelude.{◌≡◌, ℕ, List, ◌++◌, length}
use Rattle.ckrt_events.specs.declared.event.Event.{Event}
use Rattle.ckrt_disk.specs.Lists.{IsBeginningOf}
use Rattle.ckrt_stored.specs.Programs.{Program, RecoversTo}

-- The image recovers to events that begin with the acknowledged ones and are a beginning of all, with output held from an offset on that is
-- at most the limit.
pub record RecoversBetween (p : Program) (acknowledged all : List Event) (limit : ℕ)
    (image : List ℕ) : Type 0 where
  pub events : List Event
  pub begins : IsBeginningOf acknowledged events
  pub within : IsBeginningOf events all
  pub to : RecoversTo p events limit image

-- an offset and bytes: these bytes stand at that offset of the output
abbrev pub StandsIn : List ℕ → ℕ × List ℕ → Type 0
StandsIn out line =
    (front : List ℕ) × (rest : List ℕ) × (length front ≡ line.0) × (out ≡ front ++ (line.1 ++ rest))
