use Rattle.ckrt_witness.proofs.closed_words.real_words.Goals as goal

pub returns : goal.returns
returns g c = record {
  making = _;
  asks = c.expect_format.ensures;
  sources = tt;
  made = c.run_real.ensures;
  telling = _;
  asks_version = c.expect_version.ensures;
  others = tt;
  told = c.run_real-2.ensures;
  nonsense = _;
  some = c.expect_some.ensures;
  unasked = tt;
  refused = c.run_real-3.ensures;
}
