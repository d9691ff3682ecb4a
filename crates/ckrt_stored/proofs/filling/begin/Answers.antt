use Rattle.std.proofs.Common.{◌≡◌, ◌≤◌, ◌∙◌, ap, length, min, sym, take, arith}
use Rattle.std.proofs.lemmas.Bool.Decides.{nat_tests}
use Rattle.std.proofs.lemmas.Result.{on_ok_weaker}
use Rattle.ckrt_stored.specs.Filling.{filled_byte}
use Rattle.ckrt_stored.proofs.FillLemmas.{closed_first, first_bytes, front_byte, front_length}
use Rattle.ckrt_stored.proofs.filling.begin.Goals as goal

pub returns-clause-filled : goal.returns-clause-filled
returns-clause-filled g c = on_ok_weaker c.write_synced.result (λ written honest i lt inside.
    let d = g.D.Disk in let s₀ = c.args.disk.now in let s₁ = c.write_synced.new.disk in let same = c.write_synced.ensures.within.same in
    let first = c.first_block-first.result in
    let count = c.min-count.result in
    let long = g.met.D.Disk.whole s₀ (same.honest honest) in
    let few : count ≤ 4096 = grind (arith, nat_tests, c.min-count.ensures) in
    let least : count ≡ min (length (d.content s₀)) 4096 = c.min-count.ensures ∙ ap (λ n. min n 4096) (c.size.ensures ∙ sym long) in
    let size = g.met.D.Disk.whole s₁ honest in
    first_bytes filled_byte 4096 count (d.content s₀) (take count first) (d.content s₁) (written honest) (front_length count first (omega (arith, few, c.first_block-first.ensures.length)))
    (size ∙ same.size ∙ sym long) least (λ k below. front_byte count first k below ∙ c.first_block-first.ensures.bytes k) i lt (omega (arith, size, inside))) c.write_synced.ensures.written

pub returns-clause-closed : goal.returns-clause-closed
returns-clause-closed g c = on_ok_weaker c.write_synced.result (λ filled honest.
    closed_first (g.D.Disk.content c.write_synced.new.disk)
    (λ some. filled honest 0 (omega arith) (omega (arith, some, g.met.D.Disk.whole c.write_synced.new.disk honest)))) (returns-clause-filled g c)
