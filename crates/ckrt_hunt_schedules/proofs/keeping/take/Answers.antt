use Rattle.std.proofs.Common.{◌∙◌, subst, sym}
use Rattle.ckrt_hunt_schedules.specs.Kept.{Takes}
use Rattle.ckrt_hunt_schedules.proofs.KeepLemmas.{left_refused}
use Rattle.ckrt_hunt_schedules.proofs.keeping.take.Goals as goal

pub returns-in-Ok : goal.returns-in-Ok
returns-in-Ok g c = record { ok = c.in-Ok.ensures.taken; err = tt }

pub returns-then-commit_makes_room : goal.returns-then-commit_makes_room
returns-then-commit_makes_room g c =
    subst (λ s. Takes c.args.event.now s c.submit_saved.new.session c.submit_saved.result) c.in-Err.ensures.same c.submit_saved.ensures

pub returns-else-commit_makes_room : goal.returns-else-commit_makes_room
returns-else-commit_makes_room g c = record {
  ok = tt;
  err = left_refused c.args.event.now c.in-Err.fault c.args.session.now c.submit.new.session (sym c.commit_makes_room.ensures ∙ c.if-commit_makes_room.false) c.in-Err.ensures.same c.in-Err.ensures.refused;
}
