use Rattle.std.proofs.Common.{◌∙◌, sym, subst}
use Rattle.ckrt_stored.specs.Programs.{RecoversToStart}
use Rattle.ckrt_witness.proofs.closed_streams.streams.Goals as goal

pub returns : goal.returns
returns g c =
    let p = c.formatted-image.ensures in
    record {
      program = p.0;
      by_reader = c.by_reader.ensures p.0 (subst (RecoversToStart p.0) (sym (c.memory_disk.ensures.content ∙ c.copied.ensures ∙ c.deref.ensures.value)) p.1);
      by_writer = c.by_writer.ensures p.0 (subst (RecoversToStart p.0) (sym c.memory_disk-2.ensures.content) p.1);
    }
