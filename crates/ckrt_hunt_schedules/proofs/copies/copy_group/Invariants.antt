use Rattle.std.proofs.Common.{◌≡◌, ◌≤◌, ◌+◌, ◌++◌, take}
use Rattle.std.specs.Prelude.{vec_capacity, vec_len}
use Rattle.ckrt_hunt_schedules.proofs.copies.copy_group.Given as goal

-- the rows before it were copied, and there is room for the others
abbrev pub invariant-loop-row : goal.invariant-loop-row
invariant-loop-row l = record {
  items : l.rows.items ≡ l.fn.rows.items ++ take l.row-index l.group.rows.items;
  len : vec_len l.rows ≡ vec_len l.fn.rows + l.row-index;
  capacity : vec_capacity l.fn.rows ≤ vec_capacity l.rows;
}
