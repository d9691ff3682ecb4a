use Rattle.std.proofs.Common.{◌≡◌, length}
use Rattle.ckrt_mutex.specs.WellFormed.{IsWellFormedWith}
use Rattle.ckrt_cond.specs.Rows.{waiters, broadcast_row}
use Rattle.ckrt_cond.specs.WellFormed.{IsWellFormed}
use Rattle.ckrt_cond.proofs.conditions.broadcast.Given as goal

abbrev pub invariant-loop : goal.invariant-loop
invariant-loop l = record {
  well_formed : IsWellFormedWith l.threads l.mutexes;
  conditions : IsWellFormed l.threads;
  row : broadcast_row l.condition l.threads l.mutexes ≡ broadcast_row l.condition l.fn.threads l.fn.mutexes;
}

abbrev pub decreases-loop : goal.decreases-loop
decreases-loop l = length (waiters l.condition l.threads)
