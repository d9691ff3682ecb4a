use Rattle.std.proofs.Common.{true, false, sym, arith}
use Rattle.ckrt_thread.specs.Waits.{is_of}
use Rattle.ckrt_thread.specs.WaitList.{waits_along}
use Rattle.ckrt_thread.proofs.Kept.{waiting_below, found_entry, none_found, unmarked, marked}
use Rattle.ckrt_thread.proofs.wait_list.WaitList.wait_of.Goals as goal

pub returns-then-not-self-thread : goal.returns-then-not-self-thread
returns-then-not-self-thread c =
    rw (← c.self.view_is) (sym (none_found (is_of c.args.thread) (waits_along c.self.inside.entries c.self.inside.links c.self.inside.ends) (unmarked c.self.inside.waiting (waits_along c.self.inside.entries c.self.inside.links c.self.inside.ends) c.args.thread c.self.invariant.marks (omega arith) c.if-not-self-thread.true)))

pub bounds-self-inside-thread-2 : goal.bounds-self-inside-thread-2
bounds-self-inside-thread-2 c =
    waiting_below c.self.inside.entries c.self.inside.waiting c.self.inside.links c.self.inside.ends c.self.inside.queues (waits_along c.self.inside.entries c.self.inside.links c.self.inside.ends) c.args.thread c.self.invariant (marked c.self.inside.waiting (waits_along c.self.inside.entries c.self.inside.links c.self.inside.ends) c.args.thread c.self.invariant.marks (omega arith) c.if-not-self-thread.false)

pub returns : goal.returns
returns c =
    rw (← c.self.view_is) (sym (found_entry c.self.inside.entries (waits_along c.self.inside.entries c.self.inside.links c.self.inside.ends) c.args.thread c.self.invariant.entries (marked c.self.inside.waiting (waits_along c.self.inside.entries c.self.inside.links c.self.inside.ends) c.args.thread c.self.invariant.marks (omega arith) c.if-not-self-thread.false)))
