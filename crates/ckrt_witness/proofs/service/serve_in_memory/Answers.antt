use Rattle.std.proofs.Common.{rules, ◌≡◌, ◌∙◌}
use Rattle.ckrt_witness.proofs.service.serve_in_memory.Goals as goal

pub returns : goal.returns
returns c = λ is.
    let texts = c.are_some.ensures is in
    let same : c.as_slice.result.now ≡ c.serve_image.new.writer.items = search rules in
    let served = rw c.new-writer.ensures.items at c.in-Ok.ensures.ok in
    record {
      lines = c.args.lines.now;
      some_lines = texts.0;
      text = c.serve_image.new.writer.items;
      some_text = λ empty. texts.1 (same ∙ empty);
      left = c.serve_image.new.reader.now;
      served = served;
    }
