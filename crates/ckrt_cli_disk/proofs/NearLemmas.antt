-- What a look begins with, where a snapshot was read.
use Rattle.std.proofs.Common.{◌≡◌, ℕ, List, Some, Result, Ok, Err, IfErr, IfOk, subst}
use Rattle.ckrt_look_calls.specs.declared.stretch.Stretch.{Stretch}
use Rattle.ckrt_look_recording.specs.Recording.{recorded_of}
use Rattle.ckrt_look_recording.specs.declared.recording.Recording.{Recording}
use Rattle.ckrt_history.specs.Appending.{open_of}
use Rattle.ckrt_history.specs.Reads.{AgreesOnFault, Is}
use Rattle.ckrt_history.specs.Snapshots.{BeginsBy, saved_in}
use Rattle.ckrt_history.specs.declared.fault.HistoryFault.{HistoryFault}
use Rattle.ckrt_history.specs.declared.snapshot.Snapshot.{Snapshot}
use Rattle.ckrt_cli_disk.specs.Near.{AnswersFor, position_in}

pub answers_by : (Honest : Type 0) (image : List ℕ) (stretch : Stretch) (s : Snapshot) (whole : Recording) (p : ℕ) → p ≡ position_in stretch (recorded_of whole) → (result : Result Recording HistoryFault)
    → IfOk result (λ r. Honest → BeginsBy image p (saved_in s) (recorded_of whole) (recorded_of r)) → IfErr result (λ e. Honest → AgreesOnFault e (Is (open_of image))) → Honest
    → AnswersFor image stretch (Some s) (Ok whole) result
answers_by Honest image stretch s whole p is (Ok r) begins fault honest = subst (λ n. BeginsBy image n (saved_in s) (recorded_of whole) (recorded_of r)) is (begins honest)
answers_by Honest image stretch s whole p is (Err e) begins fault honest = fault honest
