use Rattle.std.proofs.Common.{◌≡◌, ◌≢◌, true, false, sym, ap, ◌∙◌}
use Rattle.ckrt_thread.specs.Queues.{ends_of}
use Rattle.ckrt_thread.specs.WaitList.{waits_along}
use Rattle.ckrt_thread.proofs.Kept.{nobody_first, first_found}
use Rattle.ckrt_thread.proofs.wait_list.WaitList.first_for.Goals as goal

pub returns-then-ends-eq0 : goal.returns-then-ends-eq0
returns-then-ends-eq0 c =
    let e = c.ends_of-ends.ensures ∙ ap (ends_of c.args.object) c.as_slice.ensures.value in
    let z : (ends_of c.args.object c.self.inside.queues.directory.items).first ≡ 0 = rw e at c.if-ends-eq0.true in
    rw (← c.self.view_is) (sym (nobody_first c.self.inside.entries c.self.inside.waiting c.self.inside.links c.self.inside.ends c.self.inside.queues c.args.object (waits_along c.self.inside.entries c.self.inside.links c.self.inside.ends) c.self.invariant z))

pub bounds-self-inside-ends : goal.bounds-self-inside-ends
bounds-self-inside-ends c =
    let e = c.ends_of-ends.ensures ∙ ap (ends_of c.args.object) c.as_slice.ensures.value in
    let z : (ends_of c.args.object c.self.inside.queues.directory.items).first ≢ 0 = rw e at c.if-ends-eq0.false in
    rw e (first_found c.self.inside.entries c.self.inside.waiting c.self.inside.links c.self.inside.ends c.self.inside.queues c.args.object (waits_along c.self.inside.entries c.self.inside.links c.self.inside.ends) c.self.invariant z).1

pub returns : goal.returns
returns c =
    let e = c.ends_of-ends.ensures ∙ ap (ends_of c.args.object) c.as_slice.ensures.value in
    let z : (ends_of c.args.object c.self.inside.queues.directory.items).first ≢ 0 = rw e at c.if-ends-eq0.false in
    rw (← c.self.view_is, e) (sym (first_found c.self.inside.entries c.self.inside.waiting c.self.inside.links c.self.inside.ends c.self.inside.queues c.args.object (waits_along c.self.inside.entries c.self.inside.links c.self.inside.ends) c.self.invariant z).0)
