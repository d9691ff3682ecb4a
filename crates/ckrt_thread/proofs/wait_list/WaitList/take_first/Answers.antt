use Rattle.std.proofs.Common.{◌≡◌, ◌≢◌, true, false, sym, ap, ◌∙◌}
use Rattle.ckrt_thread.specs.Waits.{without}
use Rattle.ckrt_thread.specs.Queues.{ends_of}
use Rattle.ckrt_thread.specs.WaitList.{entry_at, waits_along, without_wait}
use Rattle.ckrt_thread.proofs.Kept.{nobody_first, first_found}
use Rattle.ckrt_thread.proofs.wait_list.WaitList.take_first.Goals as goal

pub returns-then-first-eq0-clause-first : goal.returns-then-first-eq0-clause-first
returns-then-first-eq0-clause-first c =
    let e = c.ends_of-first.ensures ∙ ap (ends_of c.args.object) c.as_slice.ensures.value in
    let z : (ends_of c.args.object c.self.inside.queues.directory.items).first ≡ 0 = rw e at c.if-first-eq0.true in
    let f = nobody_first c.self.inside.entries c.self.inside.waiting c.self.inside.links c.self.inside.ends c.self.inside.queues c.args.object (waits_along c.self.inside.entries c.self.inside.links c.self.inside.ends) c.self.invariant z in
    rw (← c.self.view_is) (sym f)

pub returns-then-first-eq0-clause-rest : goal.returns-then-first-eq0-clause-rest
returns-then-first-eq0-clause-rest c =
    let e = c.ends_of-first.ensures ∙ ap (ends_of c.args.object) c.as_slice.ensures.value in
    let z : (ends_of c.args.object c.self.inside.queues.directory.items).first ≡ 0 = rw e at c.if-first-eq0.true in
    let f = nobody_first c.self.inside.entries c.self.inside.waiting c.self.inside.links c.self.inside.ends c.self.inside.queues c.args.object (waits_along c.self.inside.entries c.self.inside.links c.self.inside.ends) c.self.invariant z in
    rw (← c.self.view_is) (sym (ap (λ x. without_wait x (waits_along c.self.inside.entries c.self.inside.links c.self.inside.ends)) f))

pub bounds-self-inside-place : goal.bounds-self-inside-place
bounds-self-inside-place c =
    let e = c.ends_of-first.ensures ∙ ap (ends_of c.args.object) c.as_slice.ensures.value in
    let z : (ends_of c.args.object c.self.inside.queues.directory.items).first ≢ 0 = rw e at c.if-first-eq0.false in
    let f = first_found c.self.inside.entries c.self.inside.waiting c.self.inside.links c.self.inside.ends c.self.inside.queues c.args.object (waits_along c.self.inside.entries c.self.inside.links c.self.inside.ends) c.self.invariant z in
    let place : c.entry_of-place.result ≡ (ends_of c.args.object c.self.inside.queues.directory.items).first = c.entry_of-place.ensures ∙ ap (λ x. x.first) e in
    rw place f.1

pub returns-clause-first : goal.returns-clause-first
returns-clause-first c =
    let e = c.ends_of-first.ensures ∙ ap (ends_of c.args.object) c.as_slice.ensures.value in
    let z : (ends_of c.args.object c.self.inside.queues.directory.items).first ≢ 0 = rw e at c.if-first-eq0.false in
    let f = first_found c.self.inside.entries c.self.inside.waiting c.self.inside.links c.self.inside.ends c.self.inside.queues c.args.object (waits_along c.self.inside.entries c.self.inside.links c.self.inside.ends) c.self.invariant z in
    let place : c.entry_of-place.result ≡ (ends_of c.args.object c.self.inside.queues.directory.items).first = c.entry_of-place.ensures ∙ ap (λ x. x.first) e in
    rw (← c.self.view_is, place) (sym f.0)

pub returns-clause-rest : goal.returns-clause-rest
returns-clause-rest c =
    let e = c.ends_of-first.ensures ∙ ap (ends_of c.args.object) c.as_slice.ensures.value in
    let z : (ends_of c.args.object c.self.inside.queues.directory.items).first ≢ 0 = rw e at c.if-first-eq0.false in
    let f = first_found c.self.inside.entries c.self.inside.waiting c.self.inside.links c.self.inside.ends c.self.inside.queues c.args.object (waits_along c.self.inside.entries c.self.inside.links c.self.inside.ends) c.self.invariant z in
    let place : c.entry_of-place.result ≡ (ends_of c.args.object c.self.inside.queues.directory.items).first = c.entry_of-place.ensures ∙ ap (λ x. x.first) e in
    rw (← c.self.view_is) (c.take_out.ensures ∙ (ap (λ t. without (entry_at c.self.inside.entries t).thread (waits_along c.self.inside.entries c.self.inside.links c.self.inside.ends)) place ∙ sym (ap (λ x. without_wait x (waits_along c.self.inside.entries c.self.inside.links c.self.inside.ends)) f.0)))
