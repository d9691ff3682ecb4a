use Rattle.std.proofs.Common.{[], None, false, arith, refl}
use Rattle.ckrt_main.specs.Transcript.{output}
use Rattle.ckrt_recovery.specs.View.{view_of}
use Rattle.ckrt_main.specs.Commands.{respond_to}
use Rattle.ckrt_main.proofs.LifePieceLemmas.{does_more, does_answered, output_answered}
use Rattle.ckrt_main.proofs.LifeLemmas.{represented}
use Rattle.ckrt_main.proofs.session.serve.Goals as goal

pub returns-clause-does : goal.returns-clause-does
returns-clause-does g c =
    let cs = c.args.commands.now in
    let old = c.args.session.now in
    let end = c.perform_all.new.session in
    let mid = c.release.new.session in
    let told = rw c.new-released.ensures.items at c.in_ok-release.ensures.ok in
    let first = does_answered output false [] c.release.new.to.items old mid (λ f. ([], refl)) told in
    does_more (output None (view_of old)) (respond_to cs) [] c.release.new.to.items c.perform_all.new.released.items old c.release.new.session end refl first c.in_ok-perform_all.ensures.ok

pub returns-clause-left : goal.returns-clause-left
returns-clause-left g c = λ honest p events reps. represented p events c.perform_all.new.session (g.D.Disk.content c.perform_all.new.session.disk) reps (g.met.D.Disk.readable c.perform_all.new.session.disk honest)

pub returns-clause-never : goal.returns-clause-never
returns-clause-never g c = λ named fails.
    let at = (g.met.D.Disk.stopped c.perform_all.new.session.disk 0 named).0 fails in
    omega (arith, at.0)

pub returns-clause-confirmed : goal.returns-clause-confirmed
returns-clause-confirmed g c = c.in_ok-perform_all.ensures.confirmed (output_answered _ c.args.session.now c.release.new.session c.in_ok-release.ensures.ok)
