use Rattle.std.proofs.Common.{◌≡◌, ◌∙◌, Some, None, sym, subst}
use Rattle.std.specs.Prelude.{OnOk, OnErr, false}
use Rattle.ckrt_machine.specs.Events as machine
use Rattle.ckrt_main.specs.Transcript.{run_planned}
use Rattle.ckrt_recovery.specs.View.{view_of}
use Rattle.ckrt_main.specs.Pieces.{Tells, Responds, Interrupted, ends}
use Rattle.ckrt_disk.proofs.WriteLemmas.{on_err}
use Rattle.ckrt_main.proofs.performing.run_planned.Goals as goal

pub returns-in-Some-clause-ok : goal.returns-in-Some-clause-ok
returns-in-Some-clause-ok g c =
    let s = c.args.session.now in
    let u = c.place_and_run.new.session in
    let a = g.L.Listener.contents c.args.to.now in
    let b = g.L.Listener.contents c.place_and_run.new.to in
    let thread : Some c.in-Some.thread ≡ machine.planned c.args.hart s.progress.machine.state.tables = sym c.in-Some.is ∙ c.planned.ensures.planned in
    subst (λ o. OnOk c.place_and_run.result (Responds (λ (_ : Unit {0}) f. run_planned o c.args.hart c.args.steps f (view_of s)) (λ _ f. ends false u f) (Tells g.L.Listener.text a b) s u)) thread c.place_and_run.ensures.ok

pub returns-in-Some-clause-broken : goal.returns-in-Some-clause-broken
returns-in-Some-clause-broken g c =
    let s = c.args.session.now in
    let u = c.place_and_run.new.session in
    let a = g.L.Listener.contents c.args.to.now in
    let b = g.L.Listener.contents c.place_and_run.new.to in
    let thread : Some c.in-Some.thread ≡ machine.planned c.args.hart s.progress.machine.state.tables = sym c.in-Some.is ∙ c.planned.ensures.planned in
    subst (λ o. OnErr c.place_and_run.result (Interrupted (λ (_ : Unit {0}) f. run_planned o c.args.hart c.args.steps f (view_of s)) (Tells g.L.Listener.text a b) s u)) thread c.place_and_run.ensures.broken

pub returns-in_ok-submit-in-None-clause-ok : goal.returns-in_ok-submit-in-None-clause-ok
returns-in_ok-submit-in-None-clause-ok g c =
    let s = c.args.session.now in
    let u = c.submit.new.session in
    let a = g.L.Listener.contents c.args.to.now in
    let b = g.L.Listener.contents c.submit.new.to in
    let nobody : None ≡ machine.planned c.args.hart s.progress.machine.state.tables = sym c.in-None.is ∙ c.planned.ensures.planned in
    subst (λ o. Responds (λ (_ : Unit {0}) f. run_planned o c.args.hart c.args.steps f (view_of s)) (λ _ f. ends false u f) (Tells g.L.Listener.text a b) s u) nobody c.in_ok-submit-in-None.ensures.ok

pub returns-in_err-submit-in-None-clause-broken : goal.returns-in_err-submit-in-None-clause-broken
returns-in_err-submit-in-None-clause-broken g c =
    let s = c.args.session.now in
    let u = c.submit.new.session in
    let a = g.L.Listener.contents c.args.to.now in
    let b = g.L.Listener.contents c.submit.new.to in
    let nobody : None ≡ machine.planned c.args.hart s.progress.machine.state.tables = sym c.in-None.is ∙ c.planned.ensures.planned in
    on_err _ _ (subst (λ o. Interrupted (λ (_ : Unit {0}) f. run_planned o c.args.hart c.args.steps f (view_of s)) (Tells g.L.Listener.text a b) s u) nobody c.in_err-submit-in-None.ensures.broken)
