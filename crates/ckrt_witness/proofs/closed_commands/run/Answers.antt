use Rattle.std.proofs.Common.{◌∙◌, Option, ap, sym}
use Rattle.ckrt_disk.specs.declared.stopping.StoppingDisk.{StoppingDisk}
use Rattle.ckrt_witness.specs.Shelf.{with_last}
use Rattle.ckrt_witness.proofs.ShelfLemmas.{its_output, some_same}
use Rattle.ckrt_witness.proofs.closed_commands.run.Goals as goal

pub returns : goal.returns
returns g c =
    let s = c.new-sources.result in
    let z = c.run_words_with-got.new.sources in
    record {
      sources = s;
      gives = record {
        disks = λ path x there. some_same x c.args.disk s.disk there c.new-sources.ensures.disk;
        fills = λ path size x there. let none = sym c.new-sources.ensures.filled ∙ there in absurd (cc);
        outputs = λ path it there. its_output s path it.output c.args.output c.new-sources.ensures.path c.new-sources.ensures.output there;
        inputs = λ path x there. ap (λ (y : StoppingDisk). y.marked.bytes.items) (some_same x c.stopping_disk-input.result s.input there c.new-sources.ensures.input) ∙ c.stopping_disk-input.ensures.content ∙ c.copied.ensures;
        longer = λ x size y there. there;
      };
      old = _;
      new = _;
      said = _;
      status = _;
      runs = c.run_words_with-got.ensures.outcome;
      done = c.expect_done.ensures.done;
      named = c.expect_done.ensures.named;
      closed = (z.closed_before.states, ap (λ (o : Option StoppingDisk). with_last o z.closed_before.states) (sym c.into_closed-closed.ensures.disk ∙ c.given_back.ensures));
      closed_output = (z.closed_output_before.states, ap (λ (o : Option StoppingDisk). with_last o z.closed_output_before.states) (sym c.into_closed-closed.ensures.output ∙ c.given_back-2.ensures));
    }
