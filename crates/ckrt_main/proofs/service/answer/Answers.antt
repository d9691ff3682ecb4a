use Rattle.std.proofs.Common.{◌≡◌, ◌∙◌, false, Ok, Err, rules, refl, subst}
use Rattle.std.specs.Io.KnownBytes.{Appends}
use Rattle.ckrt_main.specs.Pieces.{Answers, BreaksOff, ends}
use Rattle.ckrt_main.specs.Replies.{NotUnderstood, line_of}
use Rattle.ckrt_main.specs.Transcript.{respond}
use Rattle.ckrt_disk.specs.Writing.{AppendsPart}
use Rattle.ckrt_main.proofs.ResponseLemmas.{half_said, said, says_still}
use Rattle.ckrt_main.proofs.TellLemmas.{tells_half, tells_one}
use Rattle.ckrt_disk.proofs.WriteLemmas.{on_err}
use Rattle.ckrt_main.specs.Service.{Writes}
use Rattle.ckrt_main.proofs.service.answer.Goals as goal

pub returns-in_ok-perform-in-Ok-clause-ok : goal.returns-in_ok-perform-in-Ok-clause-ok
returns-in_ok-perform-in-Ok-clause-ok g c =
    let a = g.W.Write.contents c.args.writer.now in
    let b = g.W.Write.contents c.perform.new.to in
    let e : Ok c.in-Ok.command ≡ c.args.command = search rules in
    subst (λ r. Answers (respond r) c.in_ok-perform-in-Ok.field-0 (Writes a b) c.args.session.now c.perform.new.session) e c.in_ok-perform-in-Ok.ensures.ok

pub returns-in_err-perform-in-Ok-clause-broken : goal.returns-in_err-perform-in-Ok-clause-broken
returns-in_err-perform-in-Ok-clause-broken g c =
    let a = g.W.Write.contents c.args.writer.now in
    let b = g.W.Write.contents c.perform.new.to in
    let e : Ok c.in-Ok.command ≡ c.args.command = search rules in
    on_err _ _ (subst (λ r. BreaksOff (respond r) (Writes a b) c.args.session.now c.perform.new.session) e c.in_err-perform-in-Ok.ensures.broken)

pub returns-in_ok-write_reply-in-Err-clause-ok : goal.returns-in_ok-write_reply-in-Err-clause-ok
returns-in_ok-write_reply-in-Err-clause-ok g c =
    let s = c.args.session.now in
    let a = g.W.Write.contents c.args.writer.now in
    let b = g.W.Write.contents c.write_reply.new.writer in
    let e : Err c.in-Err.fault ≡ c.args.command = search rules in
    let text = c.deref.ensures.0 ∙ c.refused_line.ensures in
    subst (λ r. Answers (respond r) false (Writes a b) s s) e
    (said (respond (Err c.in-Err.fault)) (ends false s) (NotUnderstood c.in-Err.fault) a b s s
    (says_still (respond (Err c.in-Err.fault)) (NotUnderstood c.in-Err.fault) s tt refl refl refl (λ f. refl))
    (tells_one line_of a b (NotUnderstood c.in-Err.fault) (subst (Appends a b) text c.in_ok-write_reply-in-Err.ensures.ok)))

pub returns-in_err-write_reply-in-Err-clause-broken : goal.returns-in_err-write_reply-in-Err-clause-broken
returns-in_err-write_reply-in-Err-clause-broken g c =
    let s = c.args.session.now in
    let a = g.W.Write.contents c.args.writer.now in
    let b = g.W.Write.contents c.write_reply.new.writer in
    let e : Err c.in-Err.fault ≡ c.args.command = search rules in
    let text = c.deref.ensures.0 ∙ c.refused_line.ensures in
    on_err _ _ (subst (λ r. BreaksOff (respond r) (Writes a b) s s) e
    (half_said (respond (Err c.in-Err.fault)) (ends false s) (NotUnderstood c.in-Err.fault) a b s s
    (says_still (respond (Err c.in-Err.fault)) (NotUnderstood c.in-Err.fault) s tt refl refl refl (λ f. refl))
    (tells_half line_of a b (NotUnderstood c.in-Err.fault) (subst (AppendsPart a b) text c.in_err-write_reply-in-Err.ensures.part))))
