use Rattle.std.proofs.Common.{ap}
use Rattle.ckrt_recovery.specs.View.{View}
use Rattle.ckrt_main.proofs.FreshLemmas.{none_failed, only_memory, view_of_fresh}
use Rattle.ckrt_main.proofs.in_memory.fresh_session.Goals as goal

pub returns-in-Ok-clause-fresh : goal.returns-in-Ok-clause-fresh
returns-in-Ok-clause-fresh c =
    let f = c.in-Ok.ensures in
    view_of_fresh c.args.config c.args.image.now c.in-Ok.session c.in_ok-disk.disk.marked.bytes.items c.in_ok-disk.ensures.formatted (f.exact tt) f.opened

pub returns-in-Ok-clause-running : goal.returns-in-Ok-clause-running
returns-in-Ok-clause-running c = ap (λ (v : View). v.failed) c.in-Ok.ensures.opened

pub unreachable-requires : goal.unreachable-requires
unreachable-requires c =
    let e = c.in-Err.ensures in
    only_memory c.args.config c.args.image.now c.in_ok-disk.disk.marked.bytes.items c.in-Err.unrecovered.fault c.in_ok-disk.ensures.formatted (e.exact tt)
    (λ is. none_failed (e.disk.fault is)) c.in_default.not-OutOfMemory
