use Rattle.std.proofs.Common.{◌≡◌, length}
use Rattle.ckrt_thread.specs.State.{IsWellFormed, all_woken}
use Rattle.ckrt_thread.specs.Granting.{queue_of}
use Rattle.ckrt_thread.proofs.table.Threads.wake_all.Given as goal

-- those who are left are still to be woken
abbrev pub invariant-loop-waiter : goal.invariant-loop-waiter
invariant-loop-waiter l = record {
  left : all_woken l.value (queue_of l.object l.self) l.self ≡ all_woken l.value (queue_of l.object l.fn.self) l.fn.self;
  well_formed : IsWellFormed l.self;
}

abbrev pub decreases-loop-waiter : goal.decreases-loop-waiter
decreases-loop-waiter l = length l.self.waits
