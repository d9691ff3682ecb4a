-- How long the file of an output is, where all is saved.
use Rattle.std.proofs.Common.{◌≡◌, ℕ, true, List, ◌++◌, length, sym, ◌∙◌, ap, arith}
use Rattle.std.proofs.lemmas.List.{take_all}
use Rattle.ckrt_disk.specs.declared.disk.Disk.{Ghosts}
use Rattle.ckrt_drive.specs.Runs.{IsAllSaved}
use Rattle.ckrt_events.specs.declared.event.Event.{Event}
use Rattle.ckrt_cli_reports.specs.Lengths.{fits, lengths_of}
use Rattle.ckrt_recovery.specs.Represents.{Represents, acknowledged_of}
use Rattle.ckrt_recovery.specs.View.{view_of}
use Rattle.ckrt_recovery.specs.declared.session.Session.{Session}
use Rattle.ckrt_stored.specs.Programs.{Program, output_after}
use Rattle.ckrt_cli.specs.Lengths.{size_after}
use Rattle.ckrt_cli.specs.Runs.{ProgramRun, way_of_run}
use Rattle.ckrt_cli.proofs.LengthLemmas.{long_as_output}

module _ {D : Type 0} {d : Ghosts D} (p : Program) where
  released_all : (all : List Event) (t : Session D d) → Represents p all t → IsAllSaved (view_of t) → t.released ≡ length (output_after p all)
  released_all all t reps saved =
      let count = saved.acknowledged ∙ reps.count in
      let same : acknowledged_of all t ≡ all = take_all t.acknowledged all (omega (arith, count)) in
      reps.released ∙ ap (λ l. length (output_after p l)) same

  -- so it is as long as the output of any list that the session represents
  pub long_as_all : (r : ProgramRun d d) → d.is_honest r.after.disk → (events all : List Event) → Represents p events r.before → Represents p all r.after → (size : ℕ) → fits (lengths_of size r.before) ≡ true
      → IsAllSaved (view_of r.after) → size_after size r.before.progress.confirmed r.drives.runs.puts.pieces ≡ length (output_after p all)
  long_as_all r honest events all before after size fit saved =
      let went = r.drives.runs in
      let there = went.accepts.represents honest p events before in
      long_as_output d d (way_of_run r) r.before r.after r.output r.end r.answer r.drives honest p events before size fit saved
      ∙ (sym (released_all (events ++ went.accepted) r.after there saved) ∙ released_all all r.after after saved)
