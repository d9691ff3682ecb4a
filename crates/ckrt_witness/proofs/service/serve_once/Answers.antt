use Rattle.std.proofs.Common.{rules, ◌≡◌, ◌∙◌, true, false, refl, sym, ap, subst}
use Rattle.ckrt_disk.specs.Disk.{HasFailed}
use Rattle.ckrt_recovery.specs.View.{View}
use Rattle.ckrt_witness.proofs.ServiceLemmas.{made, served_once}
use Rattle.ckrt_witness.proofs.service.serve_once.Goals as goal

pub returns : goal.returns
returns g c = λ honest none p start.
    let d = g.D.Disk in
    let s = c.in-Ok.session in
    let e = c.in-Ok.ensures in
    let end = c.serve.new.session in
    let some : c.are_some.result ≡ true = search rules in
    let more : c.has_more.result ≡ true = search rules in
    let well : d.failures s.disk ≡ d.failures c.args.disk = e.disk.well refl in
    let running : s.failed ≡ false = ap (λ (v : View). v.failed) e.opened in
    let since : ¬ HasFailed (d.failures s.disk) (d.failures end.disk) = subst (λ n. ¬ HasFailed n (d.failures end.disk)) (sym well) none in
    let told = c.in-Ok-serve.ensures.ok running since in
    let done = rw c.new-writer.ensures.items at told in
    let texts = c.are_some.ensures some in
    let counts = rw (c.count-count.ensures, c.acknowledged-acknowledged.ensures.value, c.confirmed-confirmed.ensures.value) at c.has_more.ensures more in
    let same : c.as_slice.result.now ≡ c.serve.new.writer.items = search rules in
    served_once p c.args.disk s end c.args.lines.now c.serve.new.writer.items _ start e.opened well none honest
    (made s end c.args.lines.now c.serve.new.writer.items c.serve.new.reader.now done.0 done.1 texts.0 (λ empty. texts.1 (same ∙ empty)) counts.0 counts.1 counts.2)
