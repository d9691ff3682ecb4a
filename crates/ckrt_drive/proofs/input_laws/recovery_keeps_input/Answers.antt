use Rattle.std.proofs.Common.{◌≡◌, List, ℕ, take, sym, ap, subst, arith, false}
use Rattle.std.proofs.lemmas.List.{take_all}
use Rattle.ckrt_events.specs.declared.event.Event.{Event}
use Rattle.ckrt_recovery.specs.View.{View}
use Rattle.ckrt_drive.specs.Fed.{IsFed}
use Rattle.ckrt_drive.proofs.KeepLemmas.{keeps_content}
use Rattle.ckrt_drive.proofs.input_laws.recovery_keeps_input.Goals as goal

pub returns : goal.returns
returns g c = λ is honest p events limit fed.
    let s = c.args.session.now in
    let d = g.D.Disk in
    let reps = is.represents honest p events limit fed.0 in
    let acknowledged : s.acknowledged ≡ s.progress.count = ap (λ (v : View). v.acknowledged) is.view in
    let running : s.failed ≡ false = ap (λ (v : View). v.failed) is.view in
    let all : take s.acknowledged events ≡ events = take_all s.acknowledged events (omega (arith, acknowledged, reps.count)) in
    let there : IsFed events (d.content s.disk) = subst (λ (l : List ℕ). IsFed events l) (sym is.settled.content) fed.1 in
    (reps, keeps_content events s running is.settled.durable (subst (λ (es : List Event). IsFed es (d.content s.disk)) (sym all) there))
