use Rattle.std.proofs.Common.{◌≡◌, sym, ◌∙◌}
use Rattle.std.specs.List.{list_all}
use Rattle.ckrt_barrier.specs.WellFormed.{awaits_more, waits_where_a_barrier_is}
use Rattle.ckrt_barrier.proofs.Test.{tested, more_awaited, barriers_there}
use Rattle.ckrt_barrier.proofs.barriers.Barriers.is_well_formed_with.Goals as goal

pub returns-then-each_awaits_more : goal.returns-then-each_awaits_more
returns-then-each_awaits_more c =
    let fewer : c.each_awaits_more.result ≡ list_all (awaits_more c.args.threads.now) c.args.self.now = rw c.rows.ensures at c.each_awaits_more.ensures in
    let there : c.each_waits_where_a_barrier_is.result ≡ list_all (waits_where_a_barrier_is c.args.self.now) c.args.threads.now.waits = rw (c.as_slice.ensures.value, c.waits.ensures) at c.each_waits_where_a_barrier_is.ensures in (
      (λ t. tested c.args.threads.now c.args.self.now c.known.ensures (sym fewer ∙ c.if-each_awaits_more.true) (sym there ∙ t)),
      (λ h. there ∙ barriers_there c.args.threads.now c.args.self.now h),
    )

pub returns-else-each_awaits_more : goal.returns-else-each_awaits_more
returns-else-each_awaits_more c =
    let fewer : c.each_awaits_more.result ≡ list_all (awaits_more c.args.threads.now) c.args.self.now = rw c.rows.ensures at c.each_awaits_more.ensures in
    ((λ t. absurd (cc)), (λ h. fewer ∙ more_awaited c.args.threads.now c.args.self.now h))
