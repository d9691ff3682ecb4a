use Rattle.std.proofs.Common.{◌∙◌, ap, subst, sym}
use Rattle.ckrt_stored.specs.Programs.{RecoversToStart}
use Rattle.ckrt_witness.proofs.closed_commands.commands.Goals as goal

pub returns : goal.returns
returns g c =
    let p = c.formatted.ensures in
    c.two_runs.ensures p.0 c.args.text.now (record {
      words = _;
      asked = c.expect_drive.ensures;
      start = c.stopping_disk-start.result;
      output = c.stopping_disk-output.result;
      end = _;
      left = _;
      one = c.run-one.ensures;
      next = c.stopping_disk-next.result;
      opened = c.stopping_disk-opened.result;
      finish = _;
      whole = _;
      other = c.run-other.ensures;
      honest = λ x. tt;
      formatted = subst (RecoversToStart p.0) (sym c.stopping_disk-start.ensures.content) p.1;
      settled = c.stopping_disk-start.ensures.settled;
      durable = c.stopping_disk-output.ensures.settled;
      disk_again = record {
        honest = tt;
        same = c.stopping_disk-next.ensures.content ∙ c.into_image.ensures;
        settled = c.stopping_disk-next.ensures.settled;
      };
      output_again = record {
        honest = tt;
        same = c.stopping_disk-opened.ensures.content ∙ c.into_image-2.ensures;
        settled = c.stopping_disk-opened.ensures.settled;
      };
      some_input = c.requires.text;
      some_output = λ same. c.expect_other.ensures (c.deref.ensures.value ∙ c.into_image-whole.ensures ∙ same ∙ c.stopping_disk-output.ensures.content ∙ c.copied.ensures);
    })
