use Rattle.std.proofs.Common.{drop}
use Rattle.ckrt_barrier.specs.WellFormed.{IsTable}
use Rattle.ckrt_tables.specs.Objects.{LeadsToTable}
use Rattle.ckrt_stored.proofs.objects.copied_barriers.Given as goal

abbrev pub invariant-loop-place : goal.invariant-loop-place
invariant-loop-place l = LeadsToTable IsTable l.barriers (drop l.place l.kept) l.kept
