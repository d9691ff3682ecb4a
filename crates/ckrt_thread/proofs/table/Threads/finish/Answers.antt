use Rattle.std.proofs.Common.{sym, subst}
use Rattle.ckrt_thread.specs.Abi.{A1}
use Rattle.ckrt_thread.proofs.Known.{off_places, off_woken_places, unjoined, woken_joiner}
use Rattle.ckrt_thread.specs.Keys.{HasValuesOf}
use Rattle.ckrt_thread.proofs.KeyLemmas.{no_value}
use Rattle.ckrt_thread.proofs.table.Threads.finish.Goals.{then-is_detached, else-is_detached}
use Rattle.ckrt_thread.proofs.table.Threads.finish.Goals as goal

pub set_slot-requires-clause-free : goal.set_slot-requires-clause-free
set_slot-requires-clause-free c = rw (c.set_second_result.ensures, c.wake.ensures, c.leave.ensures) (off_woken_places c.args.self.now c.args.thread c.in-Some.wait.thread 0 A1 c.args.value c.requires.free)

pub set_slot-requires-in-None-clause-free : goal.set_slot-requires-in-None-clause-free
set_slot-requires-in-None-clause-free c = rw c.leave.ensures (off_places c.args.self.now c.args.thread c.requires.free)

pub set_slot-requires-clause-unjoined : goal.set_slot-requires-clause-unjoined
set_slot-requires-clause-unjoined c = rw (c.set_second_result.ensures, c.wake.ensures) (woken_joiner c.leave.new.self c.args.thread 0 A1 c.args.value c.in-Some.wait c.known.ensures (sym c.in-Some.ensures.first))

pub set_slot-requires-in-None-clause-unjoined : goal.set_slot-requires-in-None-clause-unjoined
set_slot-requires-in-None-clause-unjoined c = unjoined c.leave.new.self c.args.thread (sym c.in-None.ensures.first)

pub set_slot-requires-clause-values : goal.set_slot-requires-clause-values
set_slot-requires-clause-values c = λ k _. no_value k

pub set_slot-requires-in-None-clause-values : goal.set_slot-requires-in-None-clause-values
set_slot-requires-in-None-clause-values c = elim c.if-is_detached.branch [
  | then-is_detached w ↦ subst (HasValuesOf c.leave.new.self.keys) (sym w.left-is) (λ k _. no_value k)
  | else-is_detached w ↦ subst (HasValuesOf c.leave.new.self.keys) (sym w.left-is) (λ k _. no_value k)
]
