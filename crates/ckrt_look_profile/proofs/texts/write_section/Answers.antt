use Rattle.std.proofs.Common.{◌++◌}
use Rattle.std.proofs.lemmas.Result.{on_ok_weaker}
use Rattle.ckrt_look_calls.proofs.AppendLemmas.{appends_both}
use Rattle.ckrt_look_profile.specs.Texts.{head_text, line_of, top_text}
use Rattle.ckrt_look_profile.proofs.texts.write_section.Goals as goal

-- piece by piece
pub returns : goal.returns
returns g c =
    let has = g.W.Write.contents in let s = c.args.section.now in
    let a = has c.args.out.now in let b = has c.write_head.new.out in let d = has c.write_top.new.out in let z = has c.write_word_line.new.out in
    let head = head_text s.head.now in let top = top_text c.args.all s.shares.now in
    on_ok_weaker c.write_word_line.result (λ last. appends_both a d z (head ++ top) (line_of c.args.all s.rest s.word.now)
    (appends_both a b d head top c.in_ok-write_head.ensures c.in_ok-write_top.ensures) last) c.write_word_line.ensures
