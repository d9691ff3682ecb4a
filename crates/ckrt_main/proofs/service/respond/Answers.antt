use Rattle.std.proofs.Common.{subst}
use Rattle.std.specs.Prelude.{IfOk, OnErr}
use Rattle.ckrt_main.specs.Transcript.{respond}
use Rattle.ckrt_main.specs.Service.{Writes}
use Rattle.ckrt_main.specs.Pieces.{Answers, BreaksOff}
use Rattle.ckrt_main.proofs.service.respond.Goals as goal

pub returns-clause-ok : goal.returns-clause-ok
returns-clause-ok g c =
    let a = g.W.Write.contents c.args.writer.now in
    let b = g.W.Write.contents c.answer.new.writer in
    subst (λ r. IfOk c.answer.result (λ quit. Answers (respond r) quit (Writes a b) c.args.session.now c.answer.new.session)) c.parse_command.ensures.value c.answer.ensures.ok

pub returns-clause-broken : goal.returns-clause-broken
returns-clause-broken g c =
    let a = g.W.Write.contents c.args.writer.now in
    let b = g.W.Write.contents c.answer.new.writer in
    subst (λ r. OnErr c.answer.result (BreaksOff (respond r) (Writes a b) c.args.session.now c.answer.new.session)) c.parse_command.ensures.value c.answer.ensures.broken
