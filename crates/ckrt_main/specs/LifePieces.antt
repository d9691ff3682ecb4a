-- Parts of a life: from one session to the next, over the output that was taken.
use Rattle.std.specs.Prelude.{◌≡◌, ◌⊎◌, ◌≤◌, ◌<◌, ℕ, true, false, Some, None, List, [], ◌∷◌, ◌++◌, length, take}
use Rattle.ckrt_disk.specs.declared.disk.Disk.{Ghosts}
use Rattle.ckrt_events.specs.declared.command.Command.{Command}
use Rattle.ckrt_events.specs.declared.event.Event.{Event}
use Rattle.ckrt_stored.specs.Programs.{Program, RecoversTo}
use Rattle.ckrt_recovery.specs.declared.session.Session.{Session}
use Rattle.ckrt_recovery.specs.Represents.{Represents, RecoversToEither}
use Rattle.ckrt_recovery.specs.View.{View, view_of}
use Rattle.ckrt_main.specs.Transcript.{Transcript}
use Rattle.ckrt_main.specs.declared.life.LifeReport.{LifeReport}
use Rattle.ckrt_main.specs.Pieces.{HasTaken}
use Rattle.ckrt_main.specs.Commands.{commands_of_life}
use Rattle.ckrt_main.specs.declared.life.Life.{Life}
use Rattle.ckrt_disk.specs.Lists.{IsBeginningOf}
use Rattle.ckrt_main.specs.Lives.{AreLivesFrom}

-- the session took all events of a transcript, and is the one that it leaves
pub record IsWhole (t : Transcript) (accepted : List Event) (v : View) : Type 0 where
  pub events : accepted ≡ t.events
  pub view : v ≡ t.view
  -- no device failed
  pub fate : t.fate ≡ None

-- no released output is left
abbrev pub IsConfirmed : {D : Type 0} {g : Ghosts D} → Session D g → Type 0
IsConfirmed s = s.progress.confirmed ≡ s.released

-- A part of a life from old to new, in which the bytes that were taken grew from a to b: of the events of a transcript the session took a
-- beginning, and all of them unless it has failed.
pub record Does {D : Type 0} {g : Ghosts D} (t : Transcript) (a b : List ℕ) (old new : Session D g)
    : Type 0 where
  pub accepted : List Event
  pub part : IsBeginningOf accepted t.events
  -- it goes on from the events that it represents
  pub goes_on : g.is_honest new.disk → (p : Program) (events : List Event) (from : ℕ)
      → HasTaken p events from a old → HasTaken p (events ++ accepted) from b new
  pub acknowledged : old.acknowledged ≤ new.acknowledged
  pub run : new.failed ≡ false → IsWhole t accepted (view_of new)
  -- once failed it stays as it is
  pub after_failure : old.failed ≡ true
      → (accepted ≡ []) × (new.failed ≡ true) × (new.disk ≡ old.disk)
  pub well : new.failed ≡ false → old.failed ≡ false
  -- it fails by its disk alone
  pub failed : new.failed ≡ true → (old.failed ≡ true) ⊎ (0 < g.failures new.disk)
  pub honest : g.is_honest new.disk → g.is_honest old.disk
  pub named_stop : g.named_stop new.disk ≡ g.named_stop old.disk

-- A whole life: what it reports of its session, from the beginning to the end.
pub record HasRun {D : Type 0} {g : Ghosts D} (commands : List Command) (report : LifeReport)
    (old new : Session D g) : Type 0 where
  pub recovered : report.recovered ≡ Some old.acknowledged
  pub released_from : report.released_from ≡ old.progress.confirmed
  pub acknowledged : report.acknowledged ≡ new.acknowledged
  pub left : report.left.items ≡ g.content new.disk
  pub does : Does (commands_of_life commands (view_of old)) [] report.released.items old new
  pub confirmed : IsConfirmed new
  -- what is left recovers to what the session represents, or to its acknowledged part
  pub recovers : g.is_honest new.disk → (p : Program) (events : List Event)
      → Represents p events new → RecoversToEither p events new (g.content new.disk)
  -- without a stop the disk never fails
  pub never : g.named_stop new.disk ≡ Some 0 → ¬ (0 < g.failures new.disk)

-- ONE LIFE AFTER ANOTHER

-- the image recovers to a beginning of the list of the life before
pub record Stands (p : Program) (image : List ℕ) (before : List Event) : Type 0 where
  pub many : ℕ
  pub among : many ≤ length before
  pub limit : ℕ
  pub to : RecoversTo p (take many before) limit image

-- the image that the last life left, and its list
abbrev pub last_left : List ℕ → List LifeReport → List ℕ
last_left image [] = image
last_left image (report ∷ reports) = last_left report.left.items reports

abbrev pub last_list : List Event → List (List Event) → List Event
last_list before [] = before
last_list before (events ∷ lists) = last_list events lists

-- the lives so far
pub record LivedSoFar (p : Program) (formatted : List ℕ) (lives : List Life)
    (reports : List LifeReport) (image : List ℕ) : Type 0 where
  pub lists : List (List Event)
  pub each : AreLivesFrom p formatted [] lives reports lists
  pub left : image ≡ last_left formatted reports
  pub stands : Stands p image (last_list [] lists)
