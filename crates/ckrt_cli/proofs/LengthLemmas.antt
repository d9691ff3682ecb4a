-- At an end the file of an output has the length of the output.
use Rattle.std.proofs.Common.{◌≡◌, ℕ, ◌+◌, ◌≤◌, max, true, List, [], ◌∷◌, ◌++◌, length, Result, ◌∙◌, ap, arith, length-append}
use Rattle.std.specs.List.{concat}
use Rattle.std.proofs.lemmas.Bool.Decides.{nat_tests}
use Rattle.std.proofs.lemmas.List.{take_all}
use Rattle.ckrt_disk.specs.declared.disk.Disk.{Ghosts}
use Rattle.ckrt_events.specs.declared.event.Event.{Event}
use Rattle.ckrt_stored.specs.Programs.{Program, output_after}
use Rattle.ckrt_recovery.specs.Represents.{Represents, acknowledged_of}
use Rattle.ckrt_recovery.specs.View.{view_of}
use Rattle.ckrt_recovery.specs.declared.session.Session.{Session}
use Rattle.ckrt_disk.proofs.ListLemmas.{taken_begins}
use Rattle.ckrt_recovery.proofs.AcceptLemmas.{output_begins}
use Rattle.ckrt_drive.specs.Runs.{IsAllSaved}
use Rattle.ckrt_history.specs.declared.keeping_fault.KeepingFault.{KeepingFault}
use Rattle.ckrt_cli_disk.specs.Driving.{DrivesWay, Way}
use Rattle.ckrt_cli_reports.specs.Lengths.{fits, lengths_of}
use Rattle.ckrt_cli_reports.specs.declared.driven.Driven.{Driven}
use Rattle.ckrt_cli.specs.Lengths.{size_after}
use Rattle.ckrt_drive.proofs.StepTogether.{no_longer}

-- pieces that begin within the file reach from there on
grown : (size at : ℕ) (pieces : List (List ℕ)) → at ≤ size → size_after size at pieces ≡ max size (at + length (concat pieces))
grown size at [] low = grind (arith, nat_tests, low)
grown size at (piece ∷ more) low =
    let within : at + length piece ≤ max size (at + length piece) = grind (arith, nat_tests) in
    let rest = grown (max size (at + length piece)) (at + length piece) more within in
    let whole : length (piece ++ concat more) ≡ length piece + length (concat more) = length-append piece (concat more) in
    rest ∙ grind (arith, nat_tests, whole)

module _ {D O : Type 0} (g : Ghosts D) (o : Ghosts O) (way : Way g) (s t : Session D g) (a b : O) (answer : Result Driven KeepingFault) where
  pub long_as_output : (run : DrivesWay o way s t a b answer) → g.is_honest t.disk → (p : Program) (events : List Event) → Represents p events s → (size : ℕ) → fits (lengths_of size s) ≡ true
      → IsAllSaved (view_of t) → size_after size s.progress.confirmed run.runs.puts.pieces ≡ length (output_after p (events ++ run.runs.accepted))
  long_as_output run honest p events reps size fit saved =
      let all = events ++ run.runs.accepted in
      let there = run.runs.accepts.represents honest p events reps in
      let count = saved.acknowledged ∙ there.count in
      let same : acknowledged_of all t ≡ all = take_all t.acknowledged all (omega (arith, count)) in
      let released : t.released ≡ length (output_after p all) = there.released ∙ ap (λ l. length (output_after p l)) same in
      let longer = no_longer (output_after p (acknowledged_of events s)) (output_after p (acknowledged_of all t))
      (output_begins p (acknowledged_of events s) (acknowledged_of all t) (taken_begins s.acknowledged t.acknowledged events run.runs.accepted reps.acknowledged run.runs.accepts.acknowledged)) in
      let low : s.progress.confirmed ≤ size = grind (arith, nat_tests, fit) in
      let high : size ≤ s.released = grind (arith, nat_tests, fit) in
      let below : size ≤ t.released = omega (arith, high, reps.released, there.released, longer) in
      let reach : s.progress.confirmed + length (concat run.runs.puts.pieces) ≡ t.released = run.runs.puts.reach ∙ saved.confirmed in
      let most : max size (s.progress.confirmed + length (concat run.runs.puts.pieces)) ≡ t.released = grind (arith, nat_tests, reach, below) in
      grown size s.progress.confirmed run.runs.puts.pieces low ∙ (most ∙ released)
