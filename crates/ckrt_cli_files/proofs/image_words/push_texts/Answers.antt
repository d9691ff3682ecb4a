use Rattle.ckrt_cli_files.proofs.TextLemmas.{all_pushed, longer, one_more}
use Rattle.ckrt_cli_files.proofs.image_words.push_texts.Goals as goal

pub loop-word-preserved : goal.loop-word-preserved
loop-word-preserved c = record {
  pushed = one_more c.args.words.now c.loop-word.word-index _ c.loop-word.image.items
      c.push_text.new.image.items _ c.loop-word-test.true c.in_ok-push_text.ensures.pushed
      c.loop-word.invariant.pushed;
  counted = longer _ c.loop-word.word-index _ c.loop-word.image.items c.push_text.new.image.items
      c.in_ok-push_text.ensures.pushed c.loop-word.invariant.counted;
}

pub returns-clause-pushed : goal.returns-clause-pushed
returns-clause-pushed c =
    all_pushed c.args.words.now c.loop-word.word-index c.loop-word.image.items _
    c.loop-word-test.false c.loop-word.invariant.pushed
