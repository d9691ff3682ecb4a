use Rattle.std.proofs.Common.{◌≡◌, inl, inr, ℕ, true, false, List, take, Ok, Err, Result, refl, sym, ◌∙◌, ap, subst, arith}
use Rattle.std.specs.Prelude.{IfOk}
use Rattle.ckrt_stored.specs.Programs.{RecoversTo}
use Rattle.ckrt_stored.specs.Progress.{recovered_of}
use Rattle.ckrt_stored.specs.Recovery.{Recovers, Recovered}
use Rattle.ckrt_stored.specs.declared.fault.RecoverFault.{RecoverFault}
use Rattle.ckrt_stored.specs.declared.fault.RecoverFault.TheVariants.{Device}
use Rattle.ckrt_stored.specs.Reads.{is_device}
use Rattle.ckrt_events.specs.declared.command.Command.{Command}
use Rattle.ckrt_main.specs.LifePieces.{HasRun}
use Rattle.ckrt_main.proofs.LifeLemmas.{has_lived, untouched, only_device_or_memory}
use Rattle.ckrt_main.proofs.many.live.Goals as goal

if_ok : {A E : Type 0} (r : Result A E) (P Q : A → Type 0) → ((x : A) → P x → Q x) → IfOk r P → IfOk r Q
if_ok (Ok x) P Q f p = f x p
if_ok (Err e) P Q f p = tt

abbrev ok : Recovered → Result Recovered RecoverFault
ok r = Ok r

pub returns-in-Ok : goal.returns-in-Ok
returns-in-Ok c = if_ok c.run.result _ _
    (λ report h p before stands.
    let f = c.in-Ok.ensures in
    let s = c.in-Ok.session in
    let made = c.in_ok-disk.ensures in
    let recovers = subst (λ (l : List ℕ). Recovers l (ok (recovered_of s.progress))) made.content (f.exact tt) in
    let reps = f.represents tt p (take stands.many before) stands.limit (subst (λ (l : List ℕ). RecoversTo p (take stands.many before) stands.limit l) (sym made.content) stands.to) in
    let has_run = subst (λ (l : List Command). HasRun l report s h.0) c.deref-in-Ok.ensures.value h.1 in
    let lived = has_lived p before stands.many stands.among c.args.life.now report c.args.image.items s h.0 recovers f.opened reps tt (f.disk.same.named_stop ∙ made.named_stop) has_run in (
      lived.0,
      inr (
        λ one.
            let stopped = (f.disk.stop c.args.life.now.stop_at made.named_stop).1 (omega (arith, one), omega (arith, one, made.calls)) in
            let no : false ≡ true = stopped in absurd (cc),
        lived.1,
      ),
    )) c.run.ensures

pub returns-in-Device : goal.returns-in-Device
returns-in-Device c = λ p before stands.
    let e = c.in-Err.ensures in
    let made = c.in_ok-disk.ensures in
    let f = c.stopped.ensures in
    let device : c.in-Err.unrecovered.fault ≡ Device = c.in-Device.is in
    let at = (e.disk.stop c.args.life.now.stop_at made.named_stop).0 (ap (λ (f : RecoverFault). is_device {X = Unit {0}} (Err f)) device) in
    let one : c.args.life.now.stop_at ≡ 1 = omega (arith, at.0, at.1, made.calls) in (
      before,
      inl (
        one,
        record {
          recovered = f.recovered;
          acknowledged = f.acknowledged;
          released_from = f.released_from;
          released = f.released;
          left = f.left ∙ (untouched _ c.in_ok-disk.disk c.in-Err.unrecovered.disk _ e.disk tt made.nothing_pending ∙ made.content);
          list = refl;
        },
      ),
    )

pub unreachable-requires : goal.unreachable-requires
unreachable-requires c =
    let e = c.in-Err.ensures in
    let made = c.in_ok-disk.ensures in
    only_device_or_memory c.in_ok-disk.disk.marked.bytes.items c.requires.recovers.0 c.in-Err.unrecovered.fault
    (subst (λ (l : List ℕ). Recovers l (ok c.requires.recovers.0)) (sym made.content) c.requires.recovers.1) (e.exact tt) c.in_default.not-Device c.in_default.not-OutOfMemory
