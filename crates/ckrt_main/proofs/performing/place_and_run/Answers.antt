use Rattle.std.proofs.Common.{false, sym}
use Rattle.ckrt_events.specs.declared.event.Event.TheVariants.{Place, Run}
use Rattle.ckrt_main.specs.Transcript.{submit}
use Rattle.ckrt_disk.proofs.WriteLemmas.{on_err}
use Rattle.ckrt_main.proofs.ResponseLemmas.{accepted_then, accepted_broken, refused_then, broken_before}
use Rattle.ckrt_main.proofs.performing.place_and_run.Goals as goal

pub returns-in_err-submit-clause-broken : goal.returns-in_err-submit-clause-broken
returns-in_err-submit-clause-broken g c = on_err _ _ (broken_before (Place c.args.hart c.args.thread) (submit (Run c.args.hart c.args.steps)) (g.L.Listener.contents c.args.to.now) (g.L.Listener.contents c.submit.new.to) c.args.session.now c.submit.new.session c.in_err-submit.ensures.broken)

pub returns-in_err-submit-2-clause-broken : goal.returns-in_err-submit-2-clause-broken
returns-in_err-submit-2-clause-broken g c =
    let accepted = rw c.if-branch.true at c.in_ok-submit.ensures.accepted in
    on_err _ _ (accepted_broken (Place c.args.hart c.args.thread) (submit (Run c.args.hart c.args.steps)) (g.L.Listener.contents c.args.to.now) (g.L.Listener.contents c.submit.new.to) (g.L.Listener.contents c.submit-then-branch.new.to) c.args.session.now c.submit.new.session c.submit-then-branch.new.session
    (sym accepted) c.in_ok-submit.ensures.ok c.in_err-submit-2.ensures.broken)

pub returns-then-branch-clause-ok : goal.returns-then-branch-clause-ok
returns-then-branch-clause-ok g c =
    let accepted = rw c.if-branch.true at c.in_ok-submit.ensures.accepted in
    accepted_then (Place c.args.hart c.args.thread) (submit (Run c.args.hart c.args.steps)) false (g.L.Listener.contents c.args.to.now) (g.L.Listener.contents c.submit.new.to) (g.L.Listener.contents c.submit-then-branch.new.to) c.args.session.now c.submit.new.session c.submit-then-branch.new.session
    (sym accepted) c.in_ok-submit.ensures.ok c.in_ok-submit-2.ensures.ok

pub returns-clause-ok : goal.returns-clause-ok
returns-clause-ok g c =
    let accepted = rw c.if-branch.false at c.in_ok-submit.ensures.accepted in
    refused_then (Place c.args.hart c.args.thread) (submit (Run c.args.hart c.args.steps)) (g.L.Listener.contents c.args.to.now) (g.L.Listener.contents c.submit.new.to) c.args.session.now c.submit.new.session
    (sym accepted) c.in_ok-submit.ensures.ok
