use Rattle.std.proofs.Common.{◌≡◌, ◌+◌, ◌≤◌, length}
use Rattle.ckrt_thread.specs.Deadlines.{due_waits}
use Rattle.ckrt_calls.specs.WellFormed.{IsWellFormed}
use Rattle.ckrt_calls.specs.Table.{all_timed_out}
use Rattle.ckrt_calls.proofs.due.end_due_waits.Given as goal

abbrev pub invariant-loop-round : goal.invariant-loop-round
invariant-loop-round l = record {
  well_formed : IsWellFormed l.tables;
  few : l.ended ≤ l._round;
  left : length (due_waits l.now l.tables.threads.waits) + l._round ≤ length l.fn.tables.threads.waits;
  counted : l.ended + length (due_waits l.now l.tables.threads.waits) ≡ length (due_waits l.now l.fn.tables.threads.waits);
  ends : all_timed_out (due_waits l.now l.tables.threads.waits) l.tables ≡ all_timed_out (due_waits l.now l.fn.tables.threads.waits) l.fn.tables;
}
