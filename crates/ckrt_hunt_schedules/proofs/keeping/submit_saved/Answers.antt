use Rattle.std.proofs.Common.{rules, ◌≡◌, Err, subst, sym}
use Rattle.ckrt_hunt_schedules.specs.Kept.{Takes}
use Rattle.ckrt_hunt_schedules.proofs.KeepLemmas.{left_behind, left_unsaved, taken_behind}
use Rattle.ckrt_hunt_schedules.proofs.keeping.submit_saved.Goals as goal

pub returns-in_err-save : goal.returns-in_err-save
returns-in_err-save g c =
    let why = c.in_err-save.field-0.0 in
    let is : c.from_residual.result ≡ Err why = search rules in
    subst (λ r. Takes c.args.event.now c.args.session.now c.save.new.session r) (sym is) (record {
      ok = tt;
      err = left_unsaved c.args.event.now why c.args.session.now c.save.new.session c.in_err-save.ensures.device c.save.ensures.accepts c.save.ensures.machine c.in_err-save.ensures.failed;
    })

pub returns-in-Ok : goal.returns-in-Ok
returns-in-Ok g c = record {
  ok = taken_behind c.args.event.now c.in-Ok.answer c.args.session.now c.save.new.session c.submit.new.session c.save.ensures.accepts c.save.ensures.machine c.in-Ok.ensures.taken;
  err = tt;
}

pub returns-in-Err : goal.returns-in-Err
returns-in-Err g c = record {
  ok = tt;
  err = left_behind c.args.event.now c.in-Err.fault c.args.session.now c.save.new.session c.submit.new.session c.save.ensures.accepts c.save.ensures.machine (record { acknowledged = c.in_ok-save.ensures.saved; dropped = c.in_ok-save.ensures.dropped }) c.in-Err.ensures.same c.in-Err.ensures.refused;
}
