-- What is recorded over many drives.
use Rattle.std.proofs.Common.{List, [], ◌∷◌, ℕ, refl}
use Rattle.ckrt_disk.specs.Frame.{MayBeLeft}
use Rattle.ckrt_disk.specs.declared.disk.Disk.{Ghosts}
use Rattle.ckrt_stored.specs.Programs.{Program, RecoversToStart}
use Rattle.ckrt_drive.proofs.RecordedLemmas.{begins_recorded}
use Rattle.ckrt_drive.specs.Drives.{AllKeep, AllStandRecorded, ComeBehind, OneDrive, past_behind}
use Rattle.ckrt_drive.specs.Together.{Past, StandsRecorded, past}
use Rattle.ckrt_drive.proofs.LeftLemmas.{starts_formatted}

-- a formatted disk has recorded that there is no event
pub formatted_recorded : {D : Type 0} (d : Ghosts D) (p : Program) (old : List ℕ) (disk : D) → ((image : List ℕ) → MayBeLeft d disk image → RecoversToStart p image) → StandsRecorded d (past p old [] []) disk
formatted_recorded d p old disk made = λ image may.
    record { all = []; begins = ([], refl); within = ([], refl); to = 0; held = (starts_formatted p image (made image may), begins_recorded p image (made image may)) }

-- what stands before the first of many drives stands before each
pub all_recorded : {D O : Type 0} {d : Ghosts D} {o : Ghosts O} (h : Past) (v : OneDrive d o) (more : List (OneDrive d o)) → StandsRecorded d h v.start → ComeBehind v more → (keep : AllKeep h (v ∷ more)) → AllStandRecorded h (v ∷ more) keep
all_recorded h v [] stand behind keep = (stand, tt)
all_recorded h v (w ∷ more) stand behind keep = (stand, all_recorded (past_behind v keep.0) w more (keep.0.recorded stand v.at w.start w.first.output behind.0) behind.2 keep.1)
