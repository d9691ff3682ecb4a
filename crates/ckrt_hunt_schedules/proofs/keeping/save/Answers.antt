use Rattle.std.proofs.Common.{◌≤◌, ◌∙◌, [], arith}
use Rattle.ckrt_recovery.proofs.AcceptLemmas.{accepts_commit, accepts_confirmed, accepts_more, failed_commit}
use Rattle.ckrt_recovery.proofs.AnswerLemmas.{at_ok}
use Rattle.ckrt_hunt_schedules.proofs.KeepLemmas.{all_dropped, all_saved}
use Rattle.ckrt_hunt_schedules.proofs.keeping.save.Goals as goal

pub returns-in-Ok-clause-accepts : goal.returns-in-Ok-clause-accepts
returns-in-Ok-clause-accepts g c =
    let f = c.commit.ensures in
    let old = c.args.session.now in
    let mid = c.commit.new.self in
    let new = c.confirm.new.self in
    let le : mid.progress.confirmed ≤ c.released-released.result = omega (arith, c.released-released.ensures, mid.released_from) in
    accepts_more [] [] old mid new (accepts_commit _ _ old mid c.commit.result f.any_moment f.represents f.disk f.commits) (accepts_confirmed mid new c.released-released.result le c.confirm.ensures.view c.confirm.ensures.disk c.confirm.ensures.represents)

pub returns-in-Ok-clause-saved : goal.returns-in-Ok-clause-saved
returns-in-Ok-clause-saved g c =
    all_saved c.args.session.now c.commit.new.self c.confirm.new.self c.released-released.result (at_ok c.commit.result _ c.in-Ok.field-0 c.in-Ok.is c.commit.ensures.commits.ok) c.confirm.ensures.view

pub returns-in-Ok-clause-machine : goal.returns-in-Ok-clause-machine
returns-in-Ok-clause-machine g c = c.confirm.ensures.machine ∙ c.commit.ensures.commits.machine

pub returns-in-Err-clause-accepts : goal.returns-in-Err-clause-accepts
returns-in-Err-clause-accepts g c =
    let f = c.commit.ensures in
    accepts_commit _ _ c.args.session.now c.commit.new.self c.commit.result f.any_moment f.represents f.disk f.commits

pub returns-in-Err-clause-machine : goal.returns-in-Err-clause-machine
returns-in-Err-clause-machine g c = c.commit.ensures.commits.machine

pub returns-in-Err-clause-failed : goal.returns-in-Err-clause-failed
returns-in-Err-clause-failed g c = failed_commit c.args.session.now c.commit.new.self c.commit.result c.in-Err.field-0 c.in-Err.is c.commit.ensures.commits

pub returns-in-Ok-clause-dropped : goal.returns-in-Ok-clause-dropped
returns-in-Ok-clause-dropped g c =
    all_dropped c.commit.new.self c.confirm.new.self c.released-released.result c.released-released.ensures c.confirm.ensures.view
