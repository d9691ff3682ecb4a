use Rattle.std.proofs.Common.{◌∙◌, subst}
use Rattle.std.specs.Io.KnownBytes.{Appends}
use Rattle.ckrt_main.specs.Replies.{NotAccepted, line_of}
use Rattle.ckrt_disk.specs.Writing.{AppendsPart}
use Rattle.ckrt_main.proofs.TellLemmas.{tells_half, tells_one}
use Rattle.ckrt_disk.proofs.WriteLemmas.{map_err, map_ok}
use Rattle.ckrt_main.proofs.lines.LinesListener.refused.Goals as goal

pub returns-clause-ok : goal.returns-clause-ok
returns-clause-ok g c =
    let a = g.W.Write.contents c.args.writer.now in
    let b = g.W.Write.contents c.write_text.new.writer in
    map_ok c.write_text.result _ _ (λ text. tells_one line_of a b (NotAccepted c.args.fault) (subst (Appends a b) (c.deref.ensures.0 ∙ c.refused_event.ensures) text)) c.write_text.ensures.ok

pub returns-clause-broken : goal.returns-clause-broken
returns-clause-broken g c =
    let a = g.W.Write.contents c.args.writer.now in
    let b = g.W.Write.contents c.write_text.new.writer in
    map_err c.write_text.result _ _ (λ text. tells_half line_of a b (NotAccepted c.args.fault) (subst (AppendsPart a b) (c.deref.ensures.0 ∙ c.refused_event.ensures) text)) c.write_text.ensures.part
