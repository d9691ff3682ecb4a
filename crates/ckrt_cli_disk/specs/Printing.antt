-- What runs of a disk print, one after another, with a stop between them.
use Rattle.std.specs.Prelude.{◌≡◌, ◌<◌, ◌+◌, ℕ, List, length, get_or}
use Rattle.std.specs.List.{AllByRecursion}
use Rattle.ckrt_disk.specs.Frame.{MayBeLeft}
use Rattle.ckrt_disk.specs.declared.disk.Disk.{Ghosts}
use Rattle.ckrt_events.specs.declared.event.Event.{Event}
use Rattle.ckrt_stored.specs.Programs.{Program, RecoversTo, output_after}
use Rattle.ckrt_recovery.specs.Between.{StandsIn}
use Rattle.ckrt_disk.specs.Lists.{IsBeginningOf}

-- the image recovers to a list that begins with these events
pub record RecoversBehind (p : Program) (events : List Event) (image : List ℕ) : Type 0 where
  pub all : List Event
  pub begins : IsBeginningOf events all
  pub limit : ℕ
  pub to : RecoversTo p all limit image

-- so does whatever a stop may leave of the disk
abbrev pub HoldsEvents : {D : Type 0} → Ghosts D → Program → List Event → D → Type 0
HoldsEvents d p events disk =
    (image : List ℕ) → MayBeLeft d disk image → RecoversBehind p events image

-- two lines of output have one byte at each offset at which both have one
abbrev pub HaveSameBytes : ℕ × List ℕ → ℕ × List ℕ → Type 0
HaveSameBytes x y =
    (i j : ℕ) → i < length x.1 → j < length y.1 → x.0 + i ≡ y.0 + j
    → get_or x.1 i 0 ≡ get_or y.1 j 0

-- A run of a disk that held the events before it wrote these lines of output, and ended with this disk.
pub record PrintsOn {D : Type 0} (d : Ghosts D) (p : Program) (before : List Event)
    (lines : List (ℕ × List ℕ)) (end : D) : Type 0 where
  -- the events that are acknowledged then
  pub acknowledged : List Event
  -- go on after those before
  pub more : IsBeginningOf before acknowledged
  -- each line is of their output
  pub outs : AllByRecursion (StandsIn (output_after p acknowledged)) lines
  -- no line has another byte at an offset than a line of the output of the events before
  pub same : AllByRecursion
      (λ y. (x : ℕ × List ℕ) → StandsIn (output_after p before) x → HaveSameBytes x y) lines
  -- the disk holds them
  pub holds : HoldsEvents d p acknowledged end
