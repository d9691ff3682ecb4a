use Rattle.std.proofs.Common.{◌≡◌, ◌∙◌, false, Ok, Err, refl, sym, ap, subst, inl, inr}
use Rattle.ckrt_disk.specs.Disk.{HasFailed}
use Rattle.ckrt_disk.specs.Frame.{IsSameDisk}
use Rattle.ckrt_stored.specs.Progress.{recovered_of}
use Rattle.ckrt_stored.specs.Recovery.{Recovers}
use Rattle.ckrt_stored.proofs.RecoverLemmas.{recovered_once}
use Rattle.ckrt_main.specs.Service.{Served}
use Rattle.ckrt_main.specs.declared.fault.ServeFault.{ServeFault}
use Rattle.ckrt_recovery.specs.View.{View, opened, view_of}
use Rattle.ckrt_cli_disk.specs.Running.{IsOfStream, RunsDisk}
use Rattle.ckrt_cli_reports.specs.declared.fault.JobFault.TheVariants.{Serve}
use Rattle.ckrt_cli_disk.proofs.RunLemmas.{serves, serves_all}
use Rattle.ckrt_cli_disk.proofs.running.run_disk.Goals as goal

pub returns-in-Ok-serve-clause-served : goal.returns-in-Ok-serve-clause-served
returns-in-Ok-serve-clause-served g c = λ honest none r recovers.
    let d = g.D.Disk in
    let s = c.in-Ok.session in
    let e = c.in-Ok.ensures in
    let end = c.serve.new.session in
    let there : c.into_disk.result ≡ end.disk = c.into_disk.ensures in
    let begun : d.is_honest s.disk = c.serve.ensures.honest (subst (λ x. d.is_honest x) there honest) in
    let found : Recovers (d.content c.args.disk) (Ok (recovered_of s.progress)) = e.exact begun in
    let view : view_of s ≡ opened r = e.opened ∙ ap opened (recovered_once (d.content c.args.disk) (recovered_of s.progress) r found recovers) in
    let running : s.failed ≡ false = ap (λ (v : View). v.failed) e.opened in
    let well : d.failures s.disk ≡ d.failures c.args.disk = e.disk.well refl in
    let none_since : ¬ HasFailed (d.failures s.disk) (d.failures end.disk) =
    λ h. none (subst (λ n. HasFailed n (d.failures c.into_disk.result)) well (subst (λ x. HasFailed (d.failures s.disk) (d.failures x)) (sym there) h)) in
    subst (λ v. Served (g.W.Write.contents c.args.writer.now) (g.W.Write.contents c.serve.new.writer) (g.R.Read.remaining c.args.reader.now) (g.R.Read.remaining c.serve.new.reader) v) view
    (c.in-Ok-serve.ensures.ok running none_since).0

-- the session of what was recovered was served to the end
pub returns-in-Ok-serve-clause-runs : goal.returns-in-Ok-serve-clause-runs
returns-in-Ok-serve-clause-runs g c =
    let d = g.D.Disk in
    let s = c.in-Ok.session in
    let e = c.in-Ok.ensures in
    let end = c.serve.new.session in
    let same : IsSameDisk d c.args.disk end.disk = record {
      honest = λ h. e.disk.same.honest (c.serve.ensures.honest h);
      size = c.serve.ensures.size ∙ e.disk.same.size;
      named_stop = c.serve.ensures.named_stop ∙ e.disk.same.named_stop;
    } in
    let part = serves d g.met.D.Disk.only_now c.args.disk s end e.exact e.opened e.represents e.disk _ _ _ _ c.serve.ensures.processed in
    let whole = serves_all d g.met.D.Disk.only_now c.args.disk s end e.exact e.opened e.represents e.disk _ _ _ _ c.in-Ok-serve.ensures.whole in
    subst (λ x. RunsDisk d c.args.disk (g.W.Write.contents c.args.writer.now) (g.W.Write.contents c.serve.new.writer) (g.R.Read.remaining c.args.reader.now) (g.R.Read.remaining c.serve.new.reader) (Ok x))
    (sym c.into_disk.ensures) (record { same = same; ends = (part, whole) })

-- it was served until a stream failed
pub returns-in-Err-serve-clause-runs : goal.returns-in-Err-serve-clause-runs
returns-in-Err-serve-clause-runs g c =
    let d = g.D.Disk in
    let s = c.in-Ok.session in
    let e = c.in-Ok.ensures in
    let end = c.serve.new.session in
    let same : IsSameDisk d c.args.disk end.disk = record {
      honest = λ h. e.disk.same.honest (c.serve.ensures.honest h);
      size = c.serve.ensures.size ∙ e.disk.same.size;
      named_stop = c.serve.ensures.named_stop ∙ e.disk.same.named_stop;
    } in
    let part = serves d g.met.D.Disk.only_now c.args.disk s end e.exact e.opened e.represents e.disk _ _ _ _ c.serve.ensures.processed in
    let why : IsOfStream (Serve c.in-Err-serve.fault) = elim c.in-Err-serve.ensures.err [
      | inl read ↦ inl (ap (λ (x : ServeFault). Serve x) read)
      | inr write ↦ inr (ap (λ (x : ServeFault). Serve x) write)
    ] in
    subst (λ x. RunsDisk d c.args.disk (g.W.Write.contents c.args.writer.now) (g.W.Write.contents c.serve.new.writer) (g.R.Read.remaining c.args.reader.now) (g.R.Read.remaining c.serve.new.reader)
    (Err (record { disk = x; fault = Serve c.in-Err-serve.fault })))
    (sym c.into_disk-in-Err-serve.ensures) (record { same = same; ends = inr (part, why) })
