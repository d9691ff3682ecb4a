-- What meets the premises of the law that lines of output agree.
use Rattle.std.specs.Prelude.{◌≡◌, ◌≢◌, ◌<◌, ◌+◌, ◌++◌, ℕ, List, [], length}
use Rattle.ckrt_events.specs.declared.event.Event.{Event}
use Rattle.ckrt_machine.specs.Events.{output_of}
use Rattle.ckrt_recovery.specs.Between.{StandsIn}
use Rattle.ckrt_stored.specs.Programs.{Program, output_after, state_after}

-- A program puts output, and more of it by more events. A line stands in the first output, and another one in all of it; at these places of the two
-- lines one offset is meant.
pub record LinesWitness (p : Program) : Type 0 where
  pub events : List Event
  pub more : List Event
  pub goes_on : output_of more (state_after p events) ≢ []
  pub line : ℕ × List ℕ
  pub stands : StandsIn (output_after p events) line
  pub other : ℕ × List ℕ
  pub stands_on : StandsIn (output_after p events ++ output_of more (state_after p events)) other
  pub place : ℕ
  pub inside : place < length line.1
  pub other_place : ℕ
  pub other_inside : other_place < length other.1
  pub one_offset : line.0 + place ≡ other.0 + other_place
