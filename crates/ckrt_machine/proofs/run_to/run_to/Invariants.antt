use Rattle.std.proofs.Common.{◌≡◌, ◌≤◌, None}
use Rattle.ckrt_calls.specs.WellFormed.{IsWellFormed}
use Rattle.ckrt_machine.specs.Runs.{stop_of}
use Rattle.ckrt_machine.specs.RunsTo.{run_to}
use Rattle.ckrt_machine.specs.Stores.{stored_in_run}
use Rattle.ckrt_memory.specs.Marks.{AreWithin, FollowsStores}
use Rattle.ckrt_machine.proofs.run_to.run_to.Given as goal

abbrev pub invariant-loop-left : goal.invariant-loop-left
invariant-loop-left g l = record {
  well_formed : IsWellFormed l.tables;
  within : l.left ≤ l.limit;
  going : stop_of l.hart l.tables l.output.items ≡ None;
  follows : FollowsStores (stored_in_run l.limit l.hart (record { bytes = l.fn.memory.bytes; tables = l.fn.tables }) l.fn.output.items) l.fn.memory l.memory;
  rest : AreWithin (stored_in_run l.left l.hart (record { bytes = l.memory.bytes; tables = l.tables }) l.output.items) (stored_in_run l.limit l.hart (record { bytes = l.fn.memory.bytes; tables = l.fn.tables }) l.fn.output.items);
  run : run_to (g.R.StopReason.meets l.reason) l.left l.hart (record { bytes = l.memory.bytes; tables = l.tables }) l.output.items ≡ run_to (g.R.StopReason.meets l.reason) l.limit l.hart (record { bytes = l.fn.memory.bytes; tables = l.fn.tables }) l.fn.output.items;
}

abbrev pub decreases-loop-left : goal.decreases-loop-left
decreases-loop-left g l = l.left
