-- What drives give their program of its input, one after another.
use Rattle.std.specs.Prelude.{◌≡◌, ℕ, List, [], ◌∷◌, ◌++◌, Some}
use Rattle.ckrt_disk.specs.declared.disk.Disk.{Ghosts}
use Rattle.ckrt_events.specs.declared.event.Event.{Event}
use Rattle.ckrt_events.specs.declared.event.Event.TheVariants.{Eof}
use Rattle.ckrt_stored.specs.Programs.{Program}
use Rattle.ckrt_schedule.specs.Taken.{input_of}
use Rattle.ckrt_drive.specs.Drives.{AllHaveInput, AllKeep, AllToldByRecord, ComeBehind, OneDrive, past_behind}
use Rattle.ckrt_drive.specs.Together.{Past, StandsFed, past}

-- Events give a file: their Inputs, joined, are a beginning of it, and an end of input comes only after all of it.
pub record GiveFile (events : List Event) (file : List ℕ) : Type 0 where
  pub rest : List ℕ
  pub beginning : file ≡ input_of events ++ rest
  pub end : (front back : List Event) → events ≡ front ++ Eof ∷ back → input_of front ≡ file

-- the events of each drive do
abbrev pub AllGiveFile : {D O : Type 0} {d : Ghosts D} {o : Ghosts O} → (file : List ℕ)
    → (h : Past) → (drives : List (OneDrive d o)) → AllKeep h drives → Type 0
AllGiveFile file h [] keep = Unit {0}
AllGiveFile file h (v ∷ more) keep =
    GiveFile keep.0.all file × AllGiveFile file (past_behind v keep.0) more keep.1

-- Drives of one program with one input, the first one of a disk without an event: whatever was stopped when, by whatever schedules they went,
-- the events of each give the file.
abbrev pub DrivesGiveFile : {D O : Type 0} → Ghosts D → Ghosts O → Type 0
DrivesGiveFile d o =
    (file : List ℕ) (p : Program) (old : List ℕ) (v : OneDrive d o) (more : List (OneDrive d o))
    → AllHaveInput (Some file) (v ∷ more) → StandsFed d (Some file) (past p old [] []) v.start
    → AllToldByRecord (v ∷ more) → ComeBehind v more
    → (keep : AllKeep (past p old [] []) (v ∷ more))
    → AllGiveFile file (past p old [] []) (v ∷ more) keep
