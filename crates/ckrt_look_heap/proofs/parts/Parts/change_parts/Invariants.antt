use Rattle.std.proofs.Common.{◌≡◌, ◌⊎◌, ◌≤◌, ◌+◌, ◌-◌, ◌%◌, length}
use Rattle.ckrt_look_heap.specs.Parts.{altered}
use Rattle.ckrt_look_heap.proofs.parts.Parts.change_parts.Given as goal

-- the words so far, up to the end of a part
abbrev pub invariant-parts : goal.invariant-parts
invariant-parts l = record {
  few : l.done ≤ l.count;
  at : (l.done ≡ 0) ⊎ ((l.first + l.done) % 1024 ≡ 0) ⊎ (l.done ≡ l.count);
  cells : l.self.cells ≡ altered l.done l.first l.change l.fn.self.cells;
  size : length l.self.cells ≡ length l.fn.self.cells;
  room : l.self.room ≡ l.fn.self.room;
}

abbrev pub decreases-parts : goal.decreases-parts
decreases-parts l = l.count - l.done
