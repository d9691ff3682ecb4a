use Rattle.std.proofs.Common.{◌≡◌, ◌++◌, take, drop, map}
use Rattle.ckrt_thread.specs.State.{change_live}
use Rattle.ckrt_thread.specs.Keys.{setting}
use Rattle.ckrt_thread.proofs.slots.clear_values.Given as goal

-- the slots before the index are done, and the others as they were
abbrev pub invariant-loop-slot : goal.invariant-loop-slot
invariant-loop-slot l = l.slots ≡ map (change_live (setting l.key 0)) (take l.slot-index l.fn.slots) ++ drop l.slot-index l.fn.slots
