use Rattle.std.proofs.Common.{◌∙◌, ap}
use Rattle.ckrt_disk.specs.contracts.stopping.StoppingDiskDisk.TheImpl as stopping
use Rattle.ckrt_witness.proofs.closed_before.before_a_drive.Goals as goal

pub returns : goal.returns
returns g c =
    let one = c.drove-first.ensures in
    let opened = c.memory_disk-opened in
    let other = c.memory_disk-other in
    let next = c.stopping_disk-next in
    let begun = c.stopping_disk-begun in
    let behind_read = c.stopping_disk-behind_read in
    let behind_recovery = c.stopping_disk-behind_recovery in
    let left = c.into_image-left.ensures ∙ ap stopping.ghosts.content c.into_disk.ensures in
    c.stop_before.ensures (record {
      start = one.0;
      output = c.memory_disk-output.result;
      file = c.args.text.now;
      end = c.drove-first.result.session.disk;
      left = c.drove-first.result.output;
      one = one.3;
      opened = opened.result;
      output_again = record { honest = tt; same = opened.ensures.content ∙ c.into_image.ensures; settled = opened.ensures.settled };
      output_honest = tt;
      other = other.result;
      other_again = record { honest = tt; same = other.ensures.content ∙ c.into_image-4.ensures; settled = other.ensures.settled };
      next = next.result;
      next_again = record { honest = tt; same = next.ensures.content ∙ c.copied-2.ensures ∙ c.deref.ensures.value ∙ left; settled = next.ensures.settled };
      looked = c.looked-looked.result;
      read = c.looked-looked.ensures;
      behind_read = behind_read.result;
      read_again = record { honest = tt; same = behind_read.ensures.content ∙ c.into_image-2.ensures; settled = behind_read.ensures.settled };
      begun = begun.result;
      begun_again = record { honest = tt; same = begun.ensures.content ∙ left; settled = begun.ensures.settled };
      broken = c.broken-broken.result;
      recovery = c.broken-broken.ensures;
      behind_recovery = behind_recovery.result;
      recovery_again = record { honest = tt; same = behind_recovery.ensures.content ∙ c.into_image-3.ensures; settled = behind_recovery.ensures.settled };
    })
