use Rattle.std.proofs.Common.{◌<◌, ◌+◌, ◌∙◌, Ok, length, sym, refl}
use Rattle.ckrt_main.specs.Transcript.{respond}
use Rattle.ckrt_main.proofs.FateLemmas.{events_of_respond}
use Rattle.ckrt_recovery.specs.View.{view_of}
use Rattle.ckrt_main.proofs.LifePieceLemmas.{confirmed_answered, does_answered, does_nothing, quit_answered}
use Rattle.ckrt_main.proofs.StepLemmas.{does_next, quits_next, does_quit}
use Rattle.ckrt_main.proofs.session.perform_all.Goals as goal

pub loop-command-init : goal.loop-command-init
loop-command-init g c = record {
  does = does_nothing _ c.args.released.now.items c.args.session.now refl refl refl;
  goes_on = refl;
  confirmed = λ was. was;
}

pub loop-command-preserved : goal.loop-command-preserved
loop-command-preserved g c =
    let cs = c.args.commands.now in
    let v = view_of c.args.session.now in
    let i = c.loop-command.command-index in
    let x = c.command-item.result in
    let lt : c.loop-command.command-index < length c.args.commands.now = c.loop-command-test.true in
    let m = c.loop-command.session in
    let u = c.perform.new.session in
    let a = c.loop-command.released.items in
    let b = c.perform.new.to.items in
    let f = c.in_ok-perform.ensures in
    let does = does_answered (respond (Ok x)) c.in_ok-perform.field-0 a b m u (λ f. events_of_respond (Ok x) f (view_of m)) f.ok in
    let quit = quit_answered x c.in_ok-perform.field-0 _ m u f.ok in
    record {
      does = does_next cs v i x c.args.released.now.items c.loop-command.released.items c.perform.new.to.items c.args.session.now c.loop-command.session c.perform.new.session lt c.command-item.is c.loop-command.invariant.goes_on c.loop-command.invariant.does does;
      goes_on = quits_next cs v i x (view_of c.loop-command.session) lt c.command-item.is c.loop-command.invariant.goes_on ∙ (sym quit ∙ c.if-branch.false);
      confirmed = λ was. confirmed_answered x c.in_ok-perform.field-0 _ m u f.ok (c.loop-command.invariant.confirmed was);
    }

pub returns-then-branch-clause-ok : goal.returns-then-branch-clause-ok
returns-then-branch-clause-ok g c =
    let cs = c.args.commands.now in
    let v = view_of c.args.session.now in
    let i = c.loop-command.command-index in
    let x = c.command-item.result in
    let lt : c.loop-command.command-index < length c.args.commands.now = c.loop-command-test.true in
    let m = c.loop-command.session in
    let u = c.perform.new.session in
    let a = c.loop-command.released.items in
    let b = c.perform.new.to.items in
    let f = c.in_ok-perform.ensures in
    let does = does_answered (respond (Ok x)) c.in_ok-perform.field-0 a b m u (λ f. events_of_respond (Ok x) f (view_of m)) f.ok in
    let quit = quit_answered x c.in_ok-perform.field-0 _ m u f.ok in
    let all = does_next cs v i x c.args.released.now.items c.loop-command.released.items c.perform.new.to.items c.args.session.now c.loop-command.session c.perform.new.session lt c.command-item.is c.loop-command.invariant.goes_on c.loop-command.invariant.does does in
    does_quit cs v (i + 1) c.args.released.now.items c.perform.new.to.items c.args.session.now c.perform.new.session (quits_next cs v i x (view_of c.loop-command.session) lt c.command-item.is c.loop-command.invariant.goes_on ∙ (sym quit ∙ c.if-branch.true)) all

pub returns-then-branch-clause-confirmed : goal.returns-then-branch-clause-confirmed
returns-then-branch-clause-confirmed g c = λ was.
    let x = c.command-item.result in
    confirmed_answered x c.in_ok-perform.field-0 _ c.loop-command.session c.perform.new.session c.in_ok-perform.ensures.ok (c.loop-command.invariant.confirmed was)
