use Rattle.std.proofs.Common.{sym, ◌∙◌, ap, subst}
use Rattle.ckrt_disk.specs.contracts.stopping.StoppingDiskDisk.TheImpl as stopping
use Rattle.ckrt_stored.specs.Programs.{RecoversToStart}
use Rattle.ckrt_witness.proofs.closed.many_drives.Goals as goal

pub returns : goal.returns
returns g c =
    let p = c.formatted-image.ensures in
    let one = c.drove-first.ensures in
    let other = c.drove-second.ensures in
    let output = c.memory_disk-output in
    let opened = c.memory_disk-opened in
    c.two_drives.ensures p.0 c.args.text.now (record {
      start = one.0;
      output = output.result;
      end = c.drove-first.result.session.disk;
      left = c.drove-first.result.output;
      one = one.3;
      next = other.0;
      opened = opened.result;
      finish = c.drove-second.result.session.disk;
      whole = c.drove-second.result.output;
      other = other.3;
      formatted = subst (RecoversToStart p.0) (sym one.1) p.1;
      settled = one.2;
      durable = output.ensures.settled;
      disk_again = record { honest = tt; same = other.1 ∙ (c.into_image-left.ensures ∙ ap stopping.ghosts.content c.into_disk.ensures); settled = other.2 };
      output_again = record { honest = tt; same = opened.ensures.content ∙ c.into_image.ensures; settled = opened.ensures.settled };
      some_input = c.requires.text;
      some_output = λ none. c.requires.old (sym (output.ensures.content ∙ c.copied.ensures) ∙ none);
    })
