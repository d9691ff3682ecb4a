use Rattle.std.proofs.Common.{◌≡◌, List, ℕ, take, sym, refl, ap, subst, arith, false}
use Rattle.std.proofs.lemmas.List.{take_all}
use Rattle.ckrt_events.specs.declared.event.Event.{Event}
use Rattle.ckrt_recovery.specs.View.{View}
use Rattle.ckrt_stored.specs.Recorded.{HasRecorded}
use Rattle.ckrt_drive.proofs.KeepLemmas.{keeps_content}
use Rattle.ckrt_drive.proofs.recording_laws.recovery_keeps_recorded.Goals as goal

pub returns : goal.returns
returns g c = λ p events limit disk s is honest recorded.
    let d = g.D.Disk in
    let reps = is.represents honest p events limit recorded.0 in
    let settled = is.disk.settled refl honest in
    let acknowledged : s.acknowledged ≡ s.progress.count = ap (λ (v : View). v.acknowledged) is.view in
    let running : s.failed ≡ false = ap (λ (v : View). v.failed) is.view in
    let all : take s.acknowledged events ≡ events = take_all s.acknowledged events (omega (arith, acknowledged, reps.count)) in
    let there : HasRecorded p events (d.content s.disk) = subst (λ (l : List ℕ). HasRecorded p events l) (sym settled.content) recorded.1 in
    (reps, keeps_content events s running settled.durable (subst (λ (es : List Event). HasRecorded p es (d.content s.disk)) (sym all) there))
