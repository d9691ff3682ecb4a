use Rattle.std.proofs.Common.{rules, ◌≡◌, ◌+◌, Ok}
use Rattle.ckrt_machine.specs.Events.{step}
use Rattle.ckrt_recovery.specs.View.{view_of, refusal_of}
use Rattle.ckrt_recovery.proofs.AnswerLemmas.{at_ok, at_none, at_some, refused, taken}
use Rattle.ckrt_hunt_schedules.proofs.KeepLemmas.{is_taken}
use Rattle.ckrt_hunt_schedules.proofs.keeping.submit.Goals as goal

pub returns-in-Ok-clause-taken : goal.returns-in-Ok-clause-taken
returns-in-Ok-clause-taken g c =
    let s = c.args.session.now in
    let e = c.args.event.now in
    let f = c.submit.ensures in
    let is = taken c.submit.result (refusal_of (view_of s) e) (c.in-Ok.field-0-0, c.in-Ok.answer) (s.progress.count + 1, (step e s.progress.machine.state).answer) c.in-Ok.is f.answer in
    let told : c.submit.result ≡ Ok (s.progress.count + 1, (step e s.progress.machine.state).answer) = at_none (refusal_of (view_of s) e) _ _ is f.answer in
    let answer : c.in-Ok.answer ≡ (step e s.progress.machine.state).answer = search rules in
    is_taken e c.in-Ok.answer s c.submit.new.self answer is (at_none (refusal_of (view_of s) e) _ _ is f.view) f.disk (λ p events reps. at_ok c.submit.result _ (c.in-Ok.field-0-0, c.in-Ok.answer) c.in-Ok.is (f.represents p events reps))

pub returns-in-Err-clause-refused : goal.returns-in-Err-clause-refused
returns-in-Err-clause-refused g c =
    let s = c.args.session.now in
    let e = c.args.event.now in
    refused c.submit.result (refusal_of (view_of s) e) c.in-Err.fault (s.progress.count + 1, (step e s.progress.machine.state).answer) c.in-Err.is c.submit.ensures.answer

pub returns-in-Err-clause-same : goal.returns-in-Err-clause-same
returns-in-Err-clause-same g c =
    let s = c.args.session.now in
    let e = c.args.event.now in
    let f = c.submit.ensures in
    let is = refused c.submit.result (refusal_of (view_of s) e) c.in-Err.fault (s.progress.count + 1, (step e s.progress.machine.state).answer) c.in-Err.is f.answer in
    at_some (refusal_of (view_of s) e) _ _ c.in-Err.fault is f.view
