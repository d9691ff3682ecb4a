use Rattle.std.proofs.Common.{◌≡◌, nat_eq, true, false, sym, ap, subst, ◌∙◌, arith}
use Rattle.std.specs.List.{list_any}
use Rattle.ckrt_thread.specs.Waits.{without}
use Rattle.ckrt_thread.specs.Links.{dropped, IsChain}
use Rattle.ckrt_thread.specs.Queues.{AreQueues, MayLeave}
use Rattle.ckrt_thread.specs.WaitList.{entry_at, waits_along}
use Rattle.ckrt_thread.proofs.QueueLemmas.{ids_any}
use Rattle.ckrt_thread.proofs.Kept.{kept_is, kept_view, kept_row, waiting_below, found_entry, same_thread, kept_without, may_leave, none_out, unmarked, marked}
use Rattle.ckrt_thread.proofs.wait_list.WaitList.take_out.Goals as goal

pub returns-then-not-self-thread : goal.returns-then-not-self-thread
returns-then-not-self-thread c =
    rw (← c.self.view_is) (sym (none_out c.args.thread (waits_along c.self.inside.entries c.self.inside.links c.self.inside.ends) (unmarked c.self.inside.waiting (waits_along c.self.inside.entries c.self.inside.links c.self.inside.ends) c.args.thread c.self.invariant.marks (omega arith) c.if-not-self-thread.true)))

pub bounds-self-inside-place : goal.bounds-self-inside-place
bounds-self-inside-place c =
    let there = marked c.self.inside.waiting (waits_along c.self.inside.entries c.self.inside.links c.self.inside.ends) c.args.thread c.self.invariant.marks (omega arith) c.if-not-self-thread.false in
    rw c.entry_of-place.ensures (waiting_below c.self.inside.entries c.self.inside.waiting c.self.inside.links c.self.inside.ends c.self.inside.queues (waits_along c.self.inside.entries c.self.inside.links c.self.inside.ends) c.args.thread c.self.invariant there)

pub unlink-requires : goal.unlink-requires
unlink-requires c =
    let there = marked c.self.inside.waiting (waits_along c.self.inside.entries c.self.inside.links c.self.inside.ends) c.args.thread c.self.invariant.marks (omega arith) c.if-not-self-thread.false in
    let e = kept_row c.self.inside.entries c.self.inside.waiting c.self.inside.links c.self.inside.ends c.self.inside.queues (waits_along c.self.inside.entries c.self.inside.links c.self.inside.ends) c.self.invariant in
    (subst (λ xs. list_any (nat_eq c.args.thread) xs ≡ true) (sym e) (ids_any c.args.thread (waits_along c.self.inside.entries c.self.inside.links c.self.inside.ends) ∙ there), subst (IsChain c.self.inside.links c.self.inside.ends) (sym e) c.self.invariant.order)

pub take_out-requires : goal.take_out-requires
take_out-requires c =
    let there = marked c.self.inside.waiting (waits_along c.self.inside.entries c.self.inside.links c.self.inside.ends) c.args.thread c.self.invariant.marks (omega arith) c.if-not-self-thread.false in
    ((waits_along c.self.inside.entries c.self.inside.links c.self.inside.ends), rw c.entry_of-place.ensures (may_leave c.self.inside.entries c.self.inside.waiting c.self.inside.links c.self.inside.ends c.self.inside.queues (waits_along c.self.inside.entries c.self.inside.links c.self.inside.ends) c.args.thread c.self.invariant there))

pub invariant_of-self : goal.invariant_of-self
invariant_of-self c =
    let there = marked c.self.inside.waiting (waits_along c.self.inside.entries c.self.inside.links c.self.inside.ends) c.args.thread c.self.invariant.marks (omega arith) c.if-not-self-thread.false in
    let e = kept_row c.self.inside.entries c.self.inside.waiting c.self.inside.links c.self.inside.ends c.self.inside.queues (waits_along c.self.inside.entries c.self.inside.links c.self.inside.ends) c.self.invariant in
    let leaves = may_leave c.self.inside.entries c.self.inside.waiting c.self.inside.links c.self.inside.ends c.self.inside.queues (waits_along c.self.inside.entries c.self.inside.links c.self.inside.ends) c.args.thread c.self.invariant there in
    let same = same_thread (waits_along c.self.inside.entries c.self.inside.links c.self.inside.ends) c.args.thread (entry_at c.self.inside.entries c.args.thread) (found_entry c.self.inside.entries (waits_along c.self.inside.entries c.self.inside.links c.self.inside.ends) c.args.thread c.self.invariant.entries there) in
    let entry : entry_at c.self.inside.entries c.entry_of-place.result ≡ entry_at c.self.inside.entries c.args.thread = ap (entry_at c.self.inside.entries) c.entry_of-place.ensures in
    let left : AreQueues c.take_out.new.self (without (entry_at c.self.inside.entries c.args.thread).thread (waits_along c.self.inside.entries c.self.inside.links c.self.inside.ends)) = subst (λ w. AreQueues c.take_out.new.self (without w.thread (waits_along c.self.inside.entries c.self.inside.links c.self.inside.ends))) entry (c.take_out.ensures (waits_along c.self.inside.entries c.self.inside.links c.self.inside.ends) (subst (λ w. MayLeave c.self.inside.queues w (waits_along c.self.inside.entries c.self.inside.links c.self.inside.ends)) (sym entry) leaves)) in
    let kept = kept_without c.self.inside.entries c.self.inside.waiting c.self.inside.links c.self.inside.ends c.self.inside.queues (waits_along c.self.inside.entries c.self.inside.links c.self.inside.ends) c.args.thread c.unlink.new.links c.unlink.new.ends c.take_out.new.self c.self.invariant (omega arith)
    (subst (λ xs. IsChain c.unlink.new.links c.unlink.new.ends (dropped c.args.thread xs)) e c.unlink.ensures.chain) (subst (λ t. AreQueues c.take_out.new.self (without t (waits_along c.self.inside.entries c.self.inside.links c.self.inside.ends))) (sym same) left) in
    kept_view _ _ _ _ _ (without c.args.thread (waits_along c.self.inside.entries c.self.inside.links c.self.inside.ends)) kept

pub returns : goal.returns
returns c =
    let there = marked c.self.inside.waiting (waits_along c.self.inside.entries c.self.inside.links c.self.inside.ends) c.args.thread c.self.invariant.marks (omega arith) c.if-not-self-thread.false in
    let e = kept_row c.self.inside.entries c.self.inside.waiting c.self.inside.links c.self.inside.ends c.self.inside.queues (waits_along c.self.inside.entries c.self.inside.links c.self.inside.ends) c.self.invariant in
    let leaves = may_leave c.self.inside.entries c.self.inside.waiting c.self.inside.links c.self.inside.ends c.self.inside.queues (waits_along c.self.inside.entries c.self.inside.links c.self.inside.ends) c.args.thread c.self.invariant there in
    let same = same_thread (waits_along c.self.inside.entries c.self.inside.links c.self.inside.ends) c.args.thread (entry_at c.self.inside.entries c.args.thread) (found_entry c.self.inside.entries (waits_along c.self.inside.entries c.self.inside.links c.self.inside.ends) c.args.thread c.self.invariant.entries there) in
    let entry : entry_at c.self.inside.entries c.entry_of-place.result ≡ entry_at c.self.inside.entries c.args.thread = ap (entry_at c.self.inside.entries) c.entry_of-place.ensures in
    let left : AreQueues c.take_out.new.self (without (entry_at c.self.inside.entries c.args.thread).thread (waits_along c.self.inside.entries c.self.inside.links c.self.inside.ends)) = subst (λ w. AreQueues c.take_out.new.self (without w.thread (waits_along c.self.inside.entries c.self.inside.links c.self.inside.ends))) entry (c.take_out.ensures (waits_along c.self.inside.entries c.self.inside.links c.self.inside.ends) (subst (λ w. MayLeave c.self.inside.queues w (waits_along c.self.inside.entries c.self.inside.links c.self.inside.ends)) (sym entry) leaves)) in
    let kept = kept_without c.self.inside.entries c.self.inside.waiting c.self.inside.links c.self.inside.ends c.self.inside.queues (waits_along c.self.inside.entries c.self.inside.links c.self.inside.ends) c.args.thread c.unlink.new.links c.unlink.new.ends c.take_out.new.self c.self.invariant (omega arith)
    (subst (λ xs. IsChain c.unlink.new.links c.unlink.new.ends (dropped c.args.thread xs)) e c.unlink.ensures.chain) (subst (λ t. AreQueues c.take_out.new.self (without t (waits_along c.self.inside.entries c.self.inside.links c.self.inside.ends))) (sym same) left) in
    rw (← c.self.view_is) (kept_is _ _ _ _ _ (without c.args.thread (waits_along c.self.inside.entries c.self.inside.links c.self.inside.ends)) kept)
