use Rattle.std.proofs.Common.{◌≡◌, ◌≤◌, None}
use Rattle.ckrt_calls.specs.WellFormed.{IsWellFormed}
use Rattle.ckrt_machine.specs.Runs.{run_on, stop_of}
use Rattle.ckrt_machine.specs.Stores.{stored_in_run}
use Rattle.ckrt_memory.specs.Marks.{AreWithin, FollowsStores}
use Rattle.ckrt_machine.proofs.hart.run.Given as goal

abbrev pub invariant-loop-left : goal.invariant-loop-left
invariant-loop-left l = record {
  well_formed : IsWellFormed l.tables;
  within : l.left ≤ l.limit;
  going : stop_of l.hart l.tables l.output.items ≡ None;
  follows : FollowsStores (stored_in_run l.limit l.hart (record { bytes = l.fn.memory.bytes; tables = l.fn.tables }) l.fn.output.items) l.fn.memory l.memory;
  rest : AreWithin (stored_in_run l.left l.hart (record { bytes = l.memory.bytes; tables = l.tables }) l.output.items) (stored_in_run l.limit l.hart (record { bytes = l.fn.memory.bytes; tables = l.fn.tables }) l.fn.output.items);
  run : run_on l.left l.hart (record { bytes = l.memory.bytes; tables = l.tables }) l.output.items ≡ run_on l.limit l.hart (record { bytes = l.fn.memory.bytes; tables = l.fn.tables }) l.fn.output.items;
}

abbrev pub decreases-loop-left : goal.decreases-loop-left
decreases-loop-left l = l.left
