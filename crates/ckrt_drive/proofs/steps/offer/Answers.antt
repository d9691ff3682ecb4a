use Rattle.std.proofs.Common.{rules, ◌≡◌, ◌+◌, ◌∙◌, Ok, sym}
use Rattle.ckrt_machine.specs.Events as machine
use Rattle.ckrt_recovery.specs.View.{view_of, refusal_of}
use Rattle.ckrt_drive.proofs.SaveLemmas.{advances_taken, advances_short, advances_refused}
use Rattle.ckrt_recovery.proofs.AnswerLemmas.{at_ok, taken, refused, at_none, at_some}
use Rattle.ckrt_drive.proofs.steps.offer.Goals as goal

pub returns-in-Ok : goal.returns-in-Ok
returns-in-Ok g c =
    let s = c.args.session.now in
    let e = c.args.event in
    let f = c.submit.ensures in
    let is = taken c.submit.result (refusal_of (view_of s) e) (c.in-Ok.field-0-0, c.in-Ok.answer) (s.progress.count + 1, (machine.step e s.progress.machine.state).answer) c.in-Ok.is f.answer in
    let told : c.submit.result ≡ Ok (s.progress.count + 1, (machine.step e s.progress.machine.state).answer) = at_none (refusal_of (view_of s) e) _ _ is f.answer in
    let answer : c.in-Ok.answer ≡ (machine.step e s.progress.machine.state).answer = search rules in
    advances_taken c.args.recorded e c.in-Ok.answer s c.submit.new.self answer is (at_none (refusal_of (view_of s) e) _ _ is f.view) f.disk (λ p events reps. at_ok c.submit.result _ (c.in-Ok.field-0-0, c.in-Ok.answer) c.in-Ok.is (f.represents p events reps))

pub returns-then-is_shortage : goal.returns-then-is_shortage
returns-then-is_shortage g c =
    let s = c.args.session.now in
    let e = c.args.event in
    let f = c.submit.ensures in
    let is = refused c.submit.result (refusal_of (view_of s) e) c.in-Err.fault (s.progress.count + 1, (machine.step e s.progress.machine.state).answer) c.in-Err.is f.answer in
    advances_short c.args.recorded e c.in-Err.fault s c.submit.new.self c.make_room.new.session c.make_room.result is (at_some (refusal_of (view_of s) e) _ _ c.in-Err.fault is f.view) (sym c.is_shortage.ensures ∙ c.if-is_shortage.true) c.make_room.ensures

pub returns-else-is_shortage : goal.returns-else-is_shortage
returns-else-is_shortage g c =
    let s = c.args.session.now in
    let e = c.args.event in
    let f = c.submit.ensures in
    let is = refused c.submit.result (refusal_of (view_of s) e) c.in-Err.fault (s.progress.count + 1, (machine.step e s.progress.machine.state).answer) c.in-Err.is f.answer in
    advances_refused c.args.recorded e c.in-Err.fault s c.submit.new.self is (at_some (refusal_of (view_of s) e) _ _ c.in-Err.fault is f.view) (sym c.is_shortage.ensures ∙ c.if-is_shortage.false)
