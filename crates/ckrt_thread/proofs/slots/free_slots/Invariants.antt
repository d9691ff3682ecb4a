use Rattle.std.proofs.Common.{◌≡◌, ◌≤◌, None, replicate, vec_capacity}
use Rattle.ckrt_thread.proofs.slots.free_slots.Given as goal

-- so many slots are free, and there is memory for all
abbrev pub invariant-loop : goal.invariant-loop
invariant-loop l = record { items : l.table.items ≡ replicate l.counter None; room : l.count ≤ vec_capacity l.table }
