-- What a list by plan gives its program of the input.
use Rattle.std.specs.Prelude.{◌≡◌, ℕ, List, ◌∷◌, ◌++◌, Some}
use Rattle.ckrt_events.specs.declared.event.Event.{Event}
use Rattle.ckrt_events.specs.declared.event.Event.TheVariants.{Eof}
use Rattle.ckrt_stored.specs.Programs.{Program}
use Rattle.ckrt_schedule.specs.Taken.{input_of}
use Rattle.ckrt_drive.specs.ByPlan.{Course, IsByPlan}

-- the Inputs, joined, are a beginning of the file: nothing is given twice, and nothing is left out
abbrev pub GiveBeginning : Type 0
GiveBeginning =
    (u : Course) (p : Program) (events : List Event) (file : List ℕ) → u.file ≡ Some file
    → IsByPlan u p events → (rest : List ℕ) × (file ≡ input_of events ++ rest)

-- the end of input comes only after all of it
abbrev pub EndBehindAll : Type 0
EndBehindAll =
    (u : Course) (p : Program) (front back : List Event) (file : List ℕ) → u.file ≡ Some file
    → IsByPlan u p (front ++ Eof ∷ back) → input_of front ≡ file
