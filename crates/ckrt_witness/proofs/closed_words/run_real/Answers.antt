use Rattle.ckrt_witness.proofs.WordsLemmas.{with_status}
use Rattle.ckrt_witness.proofs.closed_words.run_real.Goals as goal

pub returns : goal.returns
returns g c = with_status c.run_words-got.result c.args.status c.expect_status.ensures (record { old = _; new = _; said = _; runs = c.run_words-got.ensures.outcome })
