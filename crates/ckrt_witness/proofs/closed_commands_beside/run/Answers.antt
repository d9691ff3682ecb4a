use Rattle.std.proofs.Common.{◌∙◌, Option, ap, sym}
use Rattle.ckrt_disk.specs.declared.stopping.StoppingDisk.{StoppingDisk}
use Rattle.ckrt_witness.specs.Shelf.{with_last}
use Rattle.ckrt_witness.proofs.ShelfLemmas.{its_history, other_output, some_same}
use Rattle.ckrt_witness.proofs.closed_commands_beside.run.Goals as goal

pub returns : goal.returns
returns g c =
    let s = c.with_history-sources.result in
    let e = c.with_history-sources.ensures in
    let z = c.run_words_with-got.new.sources in
    record {
      sources = s;
      gives = record {
        disks = λ other disk there. some_same disk c.args.files.disk s.disk there e.disk;
        fills = λ other size disk there. let none = sym e.filled ∙ there in absurd (cc);
        outputs = λ other it differs there. other_output s other c.args.path.now it.output c.args.files.output e.path differs e.output there;
        files = λ it there. its_history s c.args.path.now it.output c.args.files.file e.path e.history there;
        longer = λ disk size y there. there;
      };
      old = _;
      new = _;
      said = _;
      status = _;
      runs = c.run_words_with-got.ensures.outcome;
      done = c.expect_done.ensures.done;
      named = c.expect_done.ensures.named;
      closed = (z.closed_before.states, ap (λ (o : Option StoppingDisk). with_last o z.closed_before.states) (sym c.into_closed-closed.ensures.disk ∙ c.given_back.ensures));
      closed_output = (z.closed_output_before.states, ap (λ (o : Option StoppingDisk). with_last o z.closed_output_before.states) (sym c.into_closed-closed.ensures.output ∙ c.given_back-2.ensures));
      closed_history = (z.closed_history_before.states, ap (λ (o : Option StoppingDisk). with_last o z.closed_history_before.states) (sym c.into_closed-closed.ensures.history ∙ c.given_back-3.ensures));
    }
