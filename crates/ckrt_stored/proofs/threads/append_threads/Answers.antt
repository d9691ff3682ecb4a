use Rattle.std.proofs.Common.{◌≡◌, ◌∙◌, ◌+◌, Some, drop, slice_get, option_map, sym, ap, subst}
use Rattle.ckrt_thread.specs.Contents.{row, thread_rows}
use Rattle.ckrt_objects.proofs.InUse.{drop_at}
use Rattle.ckrt_tables.specs.DecodingThreads.{ThreadsLeadTo}
use Rattle.ckrt_stored.proofs.threads.append_threads.Goals as goal

pub loop-place-preserved : goal.loop-place-preserved
loop-place-preserved c =
    let kept = c.args.kept.now in let i = c.loop-place.place in
    let r = row c.in-Some.id c.in-Some.thread.now in
    let is : slice_get (thread_rows kept) i ≡ Some r = sym c.thread_at.ensures ∙ ap (option_map (λ f. row f.0 f.1.now)) c.in-Some.is in
    c.append_thread.ensures kept (drop (i + 1) (thread_rows kept)) (subst (λ l. ThreadsLeadTo c.loop-place.threads l kept) (drop_at (thread_rows kept) i r is) c.loop-place.invariant)
