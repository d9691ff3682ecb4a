use Rattle.std.proofs.Common.{◌≡◌, ◌≤◌, length, take}
use Rattle.ckrt_mutex.specs.Mutex.{kept}
use Rattle.ckrt_mutex.proofs.entries.kept_of.Given as goal

abbrev pub invariant-loop-entry : goal.invariant-loop-entry
invariant-loop-entry l = record {
  few : length l.left.items ≤ l.entry-index;
  kept : l.left.items ≡ kept (take l.entry-index l.entries);
}
