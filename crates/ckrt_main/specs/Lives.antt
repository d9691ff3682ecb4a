-- What lives of a program do, one after another (this project's choice).
use Rattle.std.specs.Prelude.{◌≡◌, ◌⊎◌, ◌≤◌, ◌<◌, ◌+◌, ◌-◌, ℕ, List, [], ◌∷◌, ◌++◌, length, take, drop, slice_get, slice_index, All, Some, None, Ok}
use Rattle.ckrt_events.specs.declared.event.Event.{Event}
use Rattle.ckrt_events.specs.Line.{IsInRangeCommand}
use Rattle.ckrt_stored.specs.Programs.{RecoversToStart, Program, RecoversTo, output_after}
use Rattle.ckrt_stored.specs.Recovery.{Recovered, Recovers}
use Rattle.ckrt_disk.specs.Lists.{IsBeginningOf}
use Rattle.ckrt_recovery.specs.View.{View, opened}
use Rattle.ckrt_main.specs.Transcript.{Transcript}
use Rattle.ckrt_main.specs.declared.life.Life.{Life}
use Rattle.ckrt_main.specs.declared.life.LifeReport.{LifeReport}
use Rattle.ckrt_main.specs.Commands.{commands_of_life}

-- each command's arguments are in their ranges
abbrev pub IsInRangeLife : Life → Type 0
IsInRangeLife life = All IsInRangeCommand life.commands.items

-- ONE LIFE

-- the offset after what a life released
abbrev pub released_to : LifeReport → ℕ
released_to report = report.released_from + length report.released.items

-- the events that a life acknowledged, of its list
abbrev pub acknowledged_in : LifeReport → List Event → List Event
acknowledged_in report events = take report.acknowledged events

-- An image recovers to what a session has acknowledged: that many events, in its area, of its generation, with the journal at its last gate.
pub record IsLeftBy (v : View) (image : List ℕ) : Type 0 where
  pub recovered : Recovered
  pub recovers : Recovers image (Ok recovered)
  pub count : recovered.count ≡ v.acknowledged
  pub area : recovered.area ≡ v.recovered.area
  pub generation : recovered.generation ≡ v.recovered.generation
  pub journal : recovered.journal ≡ v.recovered.journal

-- a life did all that its commands say
pub record IsUnbroken (t : Transcript) (accepted : List Event) (report : LifeReport) : Type 0 where
  pub events : accepted ≡ t.events
  pub acknowledged : report.acknowledged ≡ t.view.acknowledged
  -- its output is released up to there
  pub released : released_to report ≡ t.view.recovered.confirmed
  -- and its image holds just that
  pub left : IsLeftBy t.view report.left.items

-- A life that recovered from an image: `before` is the list of the last life before it that recovered, and `events` its own.
pub record HasRecovered (p : Program) (life : Life) (report : LifeReport) (image : List ℕ)
    (before events : List Event) : Type 0 where
  -- what the image recovers to
  pub opening : Recovered
  pub recovers : Recovers image (Ok opening)
  -- that many events, and its first held byte has that offset
  pub recovered : report.recovered ≡ Some opening.count
  pub released_from : report.released_from ≡ opening.confirmed
  -- its list begins with that many events of the list before
  pub among : opening.count ≤ length before
  -- and goes on with a beginning of those that its commands get accepted
  pub accepted : List Event
  pub list : events ≡ take opening.count before ++ accepted
  pub part : IsBeginningOf accepted (commands_of_life life.commands.items (opened opening)).events
  -- it acknowledged what it recovered, or more
  pub at_least : opening.count ≤ report.acknowledged
  pub acknowledged : report.acknowledged ≤ length events
  -- it released the output of its acknowledged events from that offset on
  pub released : report.released.items
      ≡ drop report.released_from (output_after p (acknowledged_in report events))
  pub within : report.released_from ≤ length (output_after p (acknowledged_in report events))
  -- what it left recovers to a beginning of its list that has its acknowledged events, with output held from an offset on that it reached
  pub many : ℕ
  pub holds : report.acknowledged ≤ many
  pub no_more : many ≤ length events
  pub left : RecoversTo p (take many events) (released_to report) report.left.items
  -- a life without a stop does all that its commands say
  pub unbroken : life.stop_at ≡ 0
      → IsUnbroken (commands_of_life life.commands.items (opened opening)) accepted report

-- A life that was stopped before it recovered: it leaves the image as it was, and the list of the life before stays.
pub record HasNotRecovered (report : LifeReport) (image : List ℕ) (before events : List Event)
    : Type 0 where
  pub recovered : report.recovered ≡ None
  pub acknowledged : report.acknowledged ≡ 0
  pub released_from : report.released_from ≡ 0
  pub released : report.released.items ≡ []
  pub left : report.left.items ≡ image
  pub list : events ≡ before

-- a life has not recovered exactly where it was stopped at call 1, the only one of recovery that is counted
abbrev pub IsLife : Program → Life → LifeReport → List ℕ → List Event → List Event → Type 0
IsLife p life report image before events =
    ((life.stop_at ≡ 1) × HasNotRecovered report image before events) ⊎ ((life.stop_at ≡ 1 → ⊥) × HasRecovered p life report image before events)

-- ONE AFTER ANOTHER

-- each life begins with the image that the one before left, and each has its list
abbrev pub AreLivesFrom : Program → List ℕ → List Event → List Life → List LifeReport
    → List (List Event) → Type 0
AreLivesFrom p image before (life ∷ lives) (report ∷ reports) (events ∷ lists) =
    IsLife p life report image before events
    × AreLivesFrom p report.left.items events lives reports lists
AreLivesFrom p image before [] [] [] = Unit {0}
AreLivesFrom p image before (life ∷ lives) [] lists = ⊥
AreLivesFrom p image before [] (report ∷ reports) lists = ⊥
AreLivesFrom p image before (life ∷ lives) (report ∷ reports) [] = ⊥
AreLivesFrom p image before [] [] (events ∷ lists) = ⊥

-- what a life acknowledged every later one that recovered has, as the beginning of its list
abbrev pub AreDurable : List LifeReport → List (List Event) → Type 0
AreDurable reports lists = (i j n : ℕ) (earlier later : LifeReport) (few more : List Event) → i < j
    → slice_get reports i ≡ Some earlier → slice_get lists i ≡ Some few
    → slice_get reports j ≡ Some later → slice_get lists j ≡ Some more
    → later.recovered ≡ Some n
    → (earlier.acknowledged ≤ n) × IsBeginningOf (acknowledged_in earlier few) more

-- lives over a disk that was formatted with the program
pub record AreLives (p : Program) (lives : List Life) (reports : List LifeReport) : Type 0 where
  -- what formatting left
  pub formatted : List ℕ
  pub starts : RecoversToStart p formatted
  -- the list of each life
  pub lists : List (List Event)
  pub each : AreLivesFrom p formatted [] lives reports lists
  pub durable : AreDurable reports lists

-- a life released the byte at an offset
pub record Releases (report : LifeReport) (offset byte : ℕ) : Type 0 where
  pub from : report.released_from ≤ offset
  pub to : offset < released_to report
  pub is : slice_index report.released.items (offset - report.released_from) ≡ byte

-- lives that released a byte at one offset released the same byte
abbrev pub AreSameBytes : List LifeReport → Type 0
AreSameBytes reports =
    (i j offset x y : ℕ) (a b : LifeReport) → slice_get reports i ≡ Some a
    → slice_get reports j ≡ Some b → Releases a offset x → Releases b offset y → x ≡ y
