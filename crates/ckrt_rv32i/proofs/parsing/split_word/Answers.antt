use Rattle.ckrt_rv32i.proofs.ParsingLaws.{split_at_space}
use Rattle.ckrt_rv32i.proofs.parsing.split_word.Goals as goal

pub returns : goal.returns
returns c =
    let n = c.word_len.ensures in
    rw (c.split_at.ensures.front, c.split_at.ensures.back) (split_at_space c.args.text.now c.word_len.result n.within n.plain n.end)
