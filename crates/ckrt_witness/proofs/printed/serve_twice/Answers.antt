use Rattle.std.proofs.Common.{rules, ◌≡◌, ◌∙◌, ◌<◌, List, true, subst}
use Rattle.std.specs.Prelude.{◌≢◌}
use Rattle.ckrt_witness.proofs.PrintedLemmas.{told_where_some}
use Rattle.ckrt_witness.proofs.printed.serve_twice.Goals as goal

pub returns : goal.returns
returns g c =
    let s = c.in-Ok.session in
    let after = c.serve.new.session in
    let is : c.are_some.result ≡ true = search rules in
    let texts = c.are_some.ensures is in
    let same : c.as_slice.result.now ≡ c.serve.new.writer.items = search rules in
    let service = rw c.new-writer.ensures.items at c.in-Ok-serve.ensures.processed in
    let more : c.has_told_more.result ≡ true = search rules in
    let counts = rw (c.acknowledged-acknowledged.ensures.value, c.confirmed-confirmed.ensures.value) at c.has_told_more.ensures more in
    told_where_some c.args.disk g.met.D.Disk.counts_now g.met.D.Disk.readable s after c.args.lines.now c.serve.new.writer.items c.serve.new.reader.now c.serve_on.result c.in-Ok.ensures.represents service
    (λ empty. texts.1 (same ∙ empty)) counts.0 counts.1 c.serve_on.ensures
