use Rattle.std.proofs.Common.{◌≡◌, length}
use Rattle.ckrt_look_clocks.specs.Parts.{touched_parts}
use Rattle.ckrt_look_clocks.proofs.parts.Shadow.touch_parts.Given as goal

-- the parts so far
abbrev pub invariant-loop-done : goal.invariant-loop-done
invariant-loop-done l = record {
  slots : l.self.slots ≡ touched_parts l.done l.first l.fn.self.slots;
  cells : l.self.cells ≡ l.fn.self.cells;
  parts : length l.self.slots.by_part ≡ length l.fn.self.slots.by_part;
}
