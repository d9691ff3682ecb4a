use Rattle.ckrt_witness.proofs.inspecting.inspect_one.Goals as goal

pub returns : goal.returns
returns g c = λ honest. record {
  disk = c.args.disk;
  shown = c.args.shown;
  end = c.inspect_with-answer.new.disk;
  honest = honest c.inspect_with-answer.new.disk;
  old = c.new-writer.result.items;
  new = c.inspect_with-answer.new.writer.items;
  read = c.inspect_with-answer.ensures.read;
  tells = c.inspect_with-answer.ensures.tells (honest c.inspect_with-answer.new.disk);
}
