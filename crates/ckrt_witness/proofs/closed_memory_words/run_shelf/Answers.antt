use Rattle.ckrt_witness.proofs.WordsLemmas.{with_status}
use Rattle.ckrt_witness.proofs.closed_memory_words.run_shelf.Goals as goal

pub returns : goal.returns
returns g c = (c.with_guest-sources.result, with_status c.run_words_with-got.result c.args.status c.expect_status.ensures (record { old = _; new = _; said = _; runs = c.run_words_with-got.ensures.outcome }))
