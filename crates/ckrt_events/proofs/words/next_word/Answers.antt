use Rattle.std.proofs.Common.{◌≢◌, length, rules, sym, ◌∙◌}
use Rattle.ckrt_events.proofs.WordLemmas.{words_of-first, is_plain-take}
use Rattle.ckrt_events.proofs.words.next_word.Goals as goal

pub returns-clause-words : goal.returns-clause-words
returns-clause-words c =
    let s = c.skip_blanks-rest.result.now in
    let n = c.word_len-len.result in
    let some : length s ≢ 0 = search rules in
    let first = words_of-first s n c.word_len-len.ensures.within some (is_plain-take s n c.word_len-len.ensures.plain) c.word_len-len.ensures.end c.skip_blanks-rest.ensures.first in
    rw (c.split_at.ensures.front, c.split_at.ensures.back) (sym c.skip_blanks-rest.ensures.same ∙ first)
