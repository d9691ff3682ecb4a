-- What was printed stays: over runs of a disk, with a stop between them.
use Rattle.std.proofs.Common.{◌++◌, ◌∙◌, ℕ, List, Option, ap, inl, inr, length, refl, slice_index, subst, take}
use Rattle.std.specs.List.{AllByRecursion}
use Rattle.ckrt_disk.specs.declared.disk.Disk.{Ghosts}
use Rattle.ckrt_disk.proofs.Images.{image_of_image}
use Rattle.ckrt_events.specs.declared.event.Event.{Event}
use Rattle.ckrt_stored.specs.Programs.{Program, output_after}
use Rattle.ckrt_recovery.specs.Between.{StandsIn}
use Rattle.ckrt_disk.specs.Lists.{IsBeginningOf}
use Rattle.ckrt_main.specs.Replies.{outs_of}
use Rattle.ckrt_recovery.proofs.AcceptLemmas.{output_begins}
use Rattle.ckrt_main.proofs.ReplyLemmas.{all_weaker}
use Rattle.ckrt_disk.proofs.ListLemmas.{begins_through}
use Rattle.ckrt_main.proofs.ToldLemmas.{lines_agree}
use Rattle.ckrt_cli_disk.specs.Printing.{HaveSameBytes, HoldsEvents, PrintsOn, RecoversBehind}
use Rattle.ckrt_cli_disk.specs.Running.{IsUnrecovered, KeepsEvents, Serves}
use Rattle.ckrt_cli_reports.specs.declared.fault.JobFault.{JobFault}

-- a line of the output of more events has the bytes of any line of the output before
same_bytes : (p : Program) (before after : List Event) → IsBeginningOf before after → (y : ℕ × List ℕ) → StandsIn (output_after p after) y
    → (x : ℕ × List ℕ) → StandsIn (output_after p before) x → HaveSameBytes x y
same_bytes p before after begins y in_after x in_before =
    let goes_on = output_begins p before after begins in
    lines_agree (output_after p before) goes_on.0 x y in_before (subst (λ (out : List ℕ). StandsIn out y) goes_on.1 in_after)

module _ {D : Type 0} (d : Ghosts D) (start end : D) (a b r s : Option (List ℕ)) (p : Program) (before : List Event) (held : HoldsEvents d p before start) where
  -- the disk as it reads may be left
  reads : RecoversBehind p before (d.content start)
  reads = held (d.content start) (record { size = refl; same = λ i out. refl })

  module _ (run : Serves d start end a b r s) (honest : d.is_honest end) where
    abbrev acknowledged : List Event
    acknowledged = take run.acknowledged (reads.all ++ run.accepted)

    keeps : KeepsEvents d start end p reads.all acknowledged (reads.all ++ run.accepted) run.confirmed
    keeps = run.keeps honest p reads.all reads.limit reads.to

    more : IsBeginningOf before acknowledged
    more = begins_through before reads.all acknowledged reads.begins keeps.more

    outs : AllByRecursion (StandsIn (output_after p acknowledged)) (outs_of (run.shows.replies ++ run.shows.broken))
    outs = run.outs honest p reads.all reads.limit reads.to

    pub prints_on : PrintsOn d p before (outs_of (run.shows.replies ++ run.shows.broken)) end
    prints_on = record {
      acknowledged = acknowledged;
      more = more;
      outs = outs;
      same = all_weaker (StandsIn (output_after p acknowledged)) (λ y. (x : ℕ × List ℕ) → StandsIn (output_after p before) x → HaveSameBytes x y)
          (same_bytes p before acknowledged more) (outs_of (run.shows.replies ++ run.shows.broken)) outs;
      holds = λ image may. let between = keeps.left image may in record { all = between.events; begins = between.begins; limit = run.confirmed; to = between.to };
    }

  pub holds_on : (fault : JobFault) → IsUnrecovered d start end a b r s fault → d.is_honest end → HoldsEvents d p before end
  holds_on fault run honest image may = elim (run.disk.torn honest) [
    | inl settled ↦ held image (record { size = may.size ∙ ap length settled.content; same = λ i out. may.same i (settled.durable i) ∙ ap (λ (l : List ℕ). slice_index l i) settled.content })
    | inr torn ↦ held image (image_of_image (d.pending start) (d.content start) (d.content end) image torn.content (record { size = may.size; same = λ i out. may.same i (λ is. out ((torn.pending i).0 is)) }))
  ]
