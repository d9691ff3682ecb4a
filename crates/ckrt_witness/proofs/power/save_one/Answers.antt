use Rattle.std.proofs.Common.{rules, ◌≡◌, sym, ◌∙◌, false, ap}
use Rattle.std.specs.Prelude.{is_err}
use Rattle.ckrt_recovery.specs.View.{View}
use Rattle.ckrt_witness.proofs.PowerLemmas.{on_ok, takes_one}
use Rattle.ckrt_witness.proofs.power.save_one.Goals as goal

pub returns : goal.returns
returns g c = λ honest p start.
    let well : is_err c.checkpoint-saved.result ≡ false = search rules in
    takes_one p c.args.disk c.args.event.now c.in-Ok.session c.submit.new.self c.checkpoint-saved.new.self c.submit.result (sym c.is_err.ensures.value ∙ c.if-is_err.false) c.in-Ok.ensures.represents
    c.submit.ensures.view c.submit.ensures.represents c.submit.ensures.disk c.checkpoint-saved.ensures.any_moment c.checkpoint-saved.ensures.disk.within.same.honest (ap (λ (v : View). v.acknowledged) (on_ok c.checkpoint-saved.result _ well c.checkpoint-saved.ensures.checkpoints.ok)) honest start
