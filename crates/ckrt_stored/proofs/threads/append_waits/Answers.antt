use Rattle.std.proofs.Common.{◌≡◌, ◌∙◌, ◌+◌, Some, drop, slice_get, sym, subst}
use Rattle.ckrt_objects.proofs.InUse.{drop_at}
use Rattle.ckrt_tables.specs.DecodingThreads.{WaitsLeadTo}
use Rattle.ckrt_stored.proofs.threads.append_waits.Goals as goal

pub loop-place-preserved : goal.loop-place-preserved
loop-place-preserved c =
    let kept = c.args.kept.now in let i = c.loop-place.place in
    let is : slice_get kept.waits i ≡ Some c.in-Some.wait = sym c.wait_at.ensures ∙ c.in-Some.is in
    c.append_wait.ensures kept (drop (i + 1) kept.waits) (subst (λ l. WaitsLeadTo c.loop-place.threads l kept) (drop_at kept.waits i c.in-Some.wait is) c.loop-place.invariant)
