use Rattle.ckrt_witness.proofs.closed_memory_words.memory_words.Goals as goal

pub returns : goal.returns
returns g c = record {
  making = _;
  asks = c.expect_format.ensures;
  sources = c.run_shelf.ensures.0;
  made = c.run_shelf.ensures.1;
  telling = _;
  asks_version = c.expect_version.ensures;
  others = c.run_shelf-2.ensures.0;
  told = c.run_shelf-2.ensures.1;
  nonsense = _;
  some = c.expect_some.ensures;
  unasked = c.run_shelf-3.ensures.0;
  refused = c.run_shelf-3.ensures.1;
}
