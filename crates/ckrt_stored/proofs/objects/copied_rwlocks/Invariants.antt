use Rattle.std.proofs.Common.{drop}
use Rattle.ckrt_objects.specs.Appended.{IsTableUpTo}
use Rattle.ckrt_rwlock.specs.RwLock.{IsTable}
use Rattle.ckrt_tables.specs.Objects.{LeadsToTable}
use Rattle.ckrt_stored.proofs.objects.copied_rwlocks.Given as goal

abbrev pub invariant-loop-place : goal.invariant-loop-place
invariant-loop-place l = LeadsToTable (IsTableUpTo 64 IsTable) l.rwlocks (drop l.place l.kept) l.kept
