use Rattle.std.proofs.Common.{◌≡◌, ◌≤◌, drop, length, vec_capacity}
use Rattle.ckrt_gdb_history.specs.Positions.{state_before}
use Rattle.ckrt_gdb_history.specs.Engine.{AreSnapshots}
use Rattle.ckrt_gdb_history.proofs.WayLemmas.{IsOnWay}
use Rattle.ckrt_gdb_history.proofs.replay.replay_all.Given as goal

abbrev pub invariant-loop-event : goal.invariant-loop-event
invariant-loop-event l = record {
  way : IsOnWay (drop l.event-index l.events) l.events l.fn.machine.state l.machine.state l.steps.items;
  size : length l.machine.state.bytes ≡ length l.fn.machine.state.bytes;
  count : length l.steps.items ≡ l.event-index;
  state : l.machine.state ≡ state_before l.event-index l.events l.fn.machine.state;
  room : length l.events ≤ vec_capacity l.steps;
  same : vec_capacity l.steps ≡ vec_capacity l.fn.steps;
  start : l.snapshots.start ≡ l.fn.snapshots.start;
  kept : AreSnapshots l.snapshots.kept l.events l.fn.machine.state;
}
