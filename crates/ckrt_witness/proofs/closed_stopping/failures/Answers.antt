use Rattle.std.proofs.Common.{◌≡◌, ◌∙◌, List, ℕ, sym, subst}
use Rattle.ckrt_stored.specs.Programs.{RecoversToStart}
use Rattle.ckrt_witness.proofs.closed_stopping.failures.Goals as goal

pub returns : goal.returns
returns g c =
    let p = c.formatted-image.ensures in
    let start : (bytes : List ℕ) → bytes ≡ c.formatted-image.result.items → RecoversToStart p.0 bytes = λ bytes is. subst (RecoversToStart p.0) (sym is) p.1 in
    let one = c.by_disk.ensures p.0 (start _ (c.stopping_disk-disk.ensures.content ∙ c.copied.ensures ∙ c.deref.ensures.value)) in
    let other = c.by_output.ensures p.0 (start _ (c.stopping_disk-disk-2.ensures.content ∙ c.copied-3.ensures ∙ c.deref-2.ensures.value)) in
    let input = c.by_input-end.ensures p.0 (start _ (c.stopping_disk-disk-4.ensures.content ∙ c.copied-7.ensures ∙ c.deref-4.ensures.value)) in
    record {
      program = p.0;
      by_disk = one.0;
      failed = one.1;
      by_output = other.0;
      grew = other.1;
      full = c.without_room.ensures p.0 (start _ (c.stopping_disk-disk-3.ensures.content ∙ c.copied-5.ensures ∙ c.deref-3.ensures.value));
      by_input = input.0;
      input = c.sync.new.self;
      input_end = c.by_input-end.result;
      read_failed = input.1;
    }
