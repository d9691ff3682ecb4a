use Rattle.std.proofs.Common.{rules, ◌≡◌, ◌∙◌, true}
use Rattle.ckrt_witness.proofs.printed.run_one.Goals as goal

pub returns : goal.returns
returns g c = λ honest well p before some holds.
    let is : c.are_some.result ≡ true = search rules in
    let texts = c.are_some.ensures is in
    let same : c.as_slice.result.now ≡ c.run_disk.new.writer.items = search rules in
    let runs = rw c.new-writer.ensures.items at c.in-Ok.ensures.runs in
    record {
      before = before;
      some_before = some;
      start = c.args.disk;
      holds = holds;
      end = c.in-Ok.end;
      honest = honest;
      well = well;
      lines = c.args.lines.now;
      some_lines = texts.0;
      text = c.run_disk.new.writer.items;
      some_text = λ empty. texts.1 (same ∙ empty);
      left = c.run_disk.new.reader.now;
      serves = runs.ends.0;
      all = runs.ends.1;
      recovered = runs.ends.0.recovered;
      recovers = runs.ends.0.recovers honest;
    }
