use Rattle.std.proofs.Common.{◌≡◌, length, vec_capacity}
use Rattle.ckrt_look_heap.specs.Parts.{altered}
use Rattle.ckrt_look_heap.proofs.parts.change_cells.Given as goal

-- the cells so far
abbrev pub invariant-loop-done : goal.invariant-loop-done
invariant-loop-done l = record {
  cells : l.cells.items ≡ altered l.done l.place l.change l.fn.cells.items;
  size : length l.cells.items ≡ length l.fn.cells.items;
  room : vec_capacity l.cells ≡ vec_capacity l.fn.cells;
}
