use Rattle.std.proofs.Common.{◌≡◌, true, false, Ok, rules, refl, subst}
use Rattle.ckrt_events.specs.declared.command.Command.TheVariants.{Submit, Auto, Commit, Checkpoint, Quit, Blank}
use Rattle.ckrt_main.specs.Pieces.{Tells, Answers, BreaksOff, ends}
use Rattle.ckrt_main.specs.Transcript.{respond}
use Rattle.ckrt_recovery.specs.View.{view_of}
use Rattle.ckrt_main.proofs.PieceLemmas.{silent}
use Rattle.ckrt_disk.proofs.WriteLemmas.{on_err}
use Rattle.ckrt_main.proofs.performing.perform.Goals as goal

pub returns-in-Quit-clause-ok : goal.returns-in-Quit-clause-ok
returns-in-Quit-clause-ok g c =
    let s = c.args.session.now in
    let a = g.L.Listener.contents c.args.to.now in
    let e : Quit ≡ c.args.command.now = search rules in
    subst (λ r. Answers (respond (Ok r)) true (Tells g.L.Listener.text a a) s s) e (silent (λ (_ : Unit {0}) f. respond (Ok Quit) f (view_of s)) (λ _ f. ends true s f) a s (λ _ f. refl))

pub returns-in-Blank-clause-ok : goal.returns-in-Blank-clause-ok
returns-in-Blank-clause-ok g c =
    let s = c.args.session.now in
    let a = g.L.Listener.contents c.args.to.now in
    let e : Blank ≡ c.args.command.now = search rules in
    subst (λ r. Answers (respond (Ok r)) false (Tells g.L.Listener.text a a) s s) e (silent (λ (_ : Unit {0}) f. respond (Ok Blank) f (view_of s)) (λ _ f. ends false s f) a s (λ _ f. refl))

pub returns-in_ok-submit-in-Submit-clause-ok : goal.returns-in_ok-submit-in-Submit-clause-ok
returns-in_ok-submit-in-Submit-clause-ok g c =
    let s = c.args.session.now in
    let told = Tells g.L.Listener.text (g.L.Listener.contents c.args.to.now) (g.L.Listener.contents c.submit.new.to) in
    let e : Submit c.in-Submit.event ≡ c.args.command.now = search rules in
    subst (λ r. Answers (respond (Ok r)) false told s c.submit.new.session) e c.in_ok-submit-in-Submit.ensures.ok

pub returns-in_err-submit-in-Submit-clause-broken : goal.returns-in_err-submit-in-Submit-clause-broken
returns-in_err-submit-in-Submit-clause-broken g c =
    let s = c.args.session.now in
    let told = Tells g.L.Listener.text (g.L.Listener.contents c.args.to.now) (g.L.Listener.contents c.submit.new.to) in
    let e : Submit c.in-Submit.event ≡ c.args.command.now = search rules in
    on_err _ _ (subst (λ r. BreaksOff (respond (Ok r)) told s c.submit.new.session) e c.in_err-submit-in-Submit.ensures.broken)

pub returns-in_ok-run_planned-in-Auto-clause-ok : goal.returns-in_ok-run_planned-in-Auto-clause-ok
returns-in_ok-run_planned-in-Auto-clause-ok g c =
    let s = c.args.session.now in
    let told = Tells g.L.Listener.text (g.L.Listener.contents c.args.to.now) (g.L.Listener.contents c.run_planned.new.to) in
    let e : Auto c.in-Auto.hart c.in-Auto.steps ≡ c.args.command.now = search rules in
    subst (λ r. Answers (respond (Ok r)) false told s c.run_planned.new.session) e c.in_ok-run_planned-in-Auto.ensures.ok

pub returns-in_err-run_planned-in-Auto-clause-broken : goal.returns-in_err-run_planned-in-Auto-clause-broken
returns-in_err-run_planned-in-Auto-clause-broken g c =
    let s = c.args.session.now in
    let told = Tells g.L.Listener.text (g.L.Listener.contents c.args.to.now) (g.L.Listener.contents c.run_planned.new.to) in
    let e : Auto c.in-Auto.hart c.in-Auto.steps ≡ c.args.command.now = search rules in
    on_err _ _ (subst (λ r. BreaksOff (respond (Ok r)) told s c.run_planned.new.session) e c.in_err-run_planned-in-Auto.ensures.broken)

pub returns-in_ok-commit-in-Commit-clause-ok : goal.returns-in_ok-commit-in-Commit-clause-ok
returns-in_ok-commit-in-Commit-clause-ok g c =
    let s = c.args.session.now in
    let told = Tells g.L.Listener.text (g.L.Listener.contents c.args.to.now) (g.L.Listener.contents c.commit.new.to) in
    let e : Commit ≡ c.args.command.now = search rules in
    subst (λ r. Answers (respond (Ok r)) false told s c.commit.new.session) e c.in_ok-commit-in-Commit.ensures.ok

pub returns-in_err-commit-in-Commit-clause-broken : goal.returns-in_err-commit-in-Commit-clause-broken
returns-in_err-commit-in-Commit-clause-broken g c =
    let s = c.args.session.now in
    let told = Tells g.L.Listener.text (g.L.Listener.contents c.args.to.now) (g.L.Listener.contents c.commit.new.to) in
    let e : Commit ≡ c.args.command.now = search rules in
    on_err _ _ (subst (λ r. BreaksOff (respond (Ok r)) told s c.commit.new.session) e c.in_err-commit-in-Commit.ensures.broken)

pub returns-in_ok-checkpoint-in-Checkpoint-clause-ok : goal.returns-in_ok-checkpoint-in-Checkpoint-clause-ok
returns-in_ok-checkpoint-in-Checkpoint-clause-ok g c =
    let s = c.args.session.now in
    let told = Tells g.L.Listener.text (g.L.Listener.contents c.args.to.now) (g.L.Listener.contents c.checkpoint.new.to) in
    let e : Checkpoint ≡ c.args.command.now = search rules in
    subst (λ r. Answers (respond (Ok r)) false told s c.checkpoint.new.session) e c.in_ok-checkpoint-in-Checkpoint.ensures.ok

pub returns-in_err-checkpoint-in-Checkpoint-clause-broken : goal.returns-in_err-checkpoint-in-Checkpoint-clause-broken
returns-in_err-checkpoint-in-Checkpoint-clause-broken g c =
    let s = c.args.session.now in
    let told = Tells g.L.Listener.text (g.L.Listener.contents c.args.to.now) (g.L.Listener.contents c.checkpoint.new.to) in
    let e : Checkpoint ≡ c.args.command.now = search rules in
    on_err _ _ (subst (λ r. BreaksOff (respond (Ok r)) told s c.checkpoint.new.session) e c.in_err-checkpoint-in-Checkpoint.ensures.broken)
