use Rattle.std.proofs.Common.{rules, ◌≡◌, ◌∙◌, true, refl}
use Rattle.ckrt_witness.proofs.StreamLemmas.{broken}
use Rattle.ckrt_witness.proofs.streams.serve_broken.Goals as goal

pub returns : goal.returns
returns g c =
    let s = c.in-Ok.session in
    let e = c.in-Ok.ensures in
    let t = c.serve.new.session in
    let is : c.are_some.result ≡ true = search rules in
    let texts = c.are_some.ensures is in
    let same : c.as_slice.result.now ≡ c.serve.new.writer.bytes.items = search rules in
    let service = rw (c.new-reader.ensures, c.new-writer.ensures) at c.serve.ensures.processed in
    let more : c.has_more.result ≡ true = search rules in
    let counts = rw c.acknowledged-acknowledged.ensures.value at c.has_more.ensures more in
    broken c.args.disk s t c.args.lines.now c.serve.new.writer.bytes.items c.serve.new.reader.bytes.now c.in-Err.fault c.in-Err.ensures.err _ e.opened e.represents (e.disk.well refl) service c.serve.ensures.failed texts.0
    (λ empty. texts.1 (same ∙ empty)) counts
