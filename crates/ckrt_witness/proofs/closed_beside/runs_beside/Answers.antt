use Rattle.std.proofs.Common.{ℕ, List, sym, ◌∙◌, ap, subst}
use Rattle.ckrt_disk.specs.contracts.memory.MemoryDiskDisk.TheImpl.{ghosts}
use Rattle.ckrt_stored.specs.Programs.{RecoversToStart}
use Rattle.ckrt_history.specs.History.{HasHistory}
use Rattle.ckrt_witness.specs.Beside.{three}
use Rattle.ckrt_witness.proofs.closed_beside.runs_beside.Goals as goal

pub returns : goal.returns
returns g c =
    let p = c.formatted.ensures in
    let one = c.kept-first.result in
    let other = c.kept-second.result in
    c.two_runs_beside.ensures p.0 (record {
      x = three c.memory_disk-disk.result c.memory_disk-output.result c.memory_disk-file.result;
      end = three one.session.disk one.output one.file;
      one = c.kept-first.ensures;
      next = three c.memory_disk-disk-2.result c.memory_disk-output-2.result c.memory_disk-file-2.result;
      again = record {
        disk = record { honest = tt; same = c.memory_disk-disk-2.ensures.content ∙ (c.into_image.ensures ∙ ap ghosts.content c.into_disk.ensures); settled = c.memory_disk-disk-2.ensures.settled };
        output = record { honest = tt; same = c.memory_disk-output-2.ensures.content ∙ c.into_image-2.ensures; settled = c.memory_disk-output-2.ensures.settled };
        file = record { honest = tt; same = c.memory_disk-file-2.ensures.content ∙ c.into_image-3.ensures; settled = c.memory_disk-file-2.ensures.settled };
      };
      whole = three other.session.disk other.output other.file;
      other = c.kept-second.ensures;
      last = three c.memory_disk.result c.memory_disk-2.result c.memory_disk-3.result;
      behind = record {
        disk = record { honest = tt; same = c.memory_disk.ensures.content ∙ (c.into_image-4.ensures ∙ ap ghosts.content c.into_disk-2.ensures); settled = c.memory_disk.ensures.settled };
        output = record { honest = tt; same = c.memory_disk-2.ensures.content ∙ c.into_image-5.ensures; settled = c.memory_disk-2.ensures.settled };
        file = record { honest = tt; same = c.memory_disk-3.ensures.content ∙ c.into_image-6.ensures; settled = c.memory_disk-3.ensures.settled };
      };
      formatted = subst (RecoversToStart p.0) (sym c.memory_disk-disk.ensures.content) p.1;
      settled = c.memory_disk-disk.ensures.settled;
      durable = c.memory_disk-output.ensures.settled;
      kept = c.memory_disk-file.ensures.settled;
      none = λ r has. c.no_history.ensures r (subst (λ (l : List ℕ). HasHistory l r) c.memory_disk-file.ensures.content has);
    })
