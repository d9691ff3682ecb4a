use Rattle.std.proofs.Common.{drop}
use Rattle.ckrt_objects.specs.Appended.{IsTableUpTo}
use Rattle.ckrt_mutex.specs.Mutex.{IsTable}
use Rattle.ckrt_tables.specs.Objects.{LeadsToTable}
use Rattle.ckrt_stored.proofs.objects.copied_mutexes.Given as goal

abbrev pub invariant-loop-place : goal.invariant-loop-place
invariant-loop-place l = LeadsToTable (IsTableUpTo 256 IsTable) l.mutexes (drop l.place l.kept) l.kept
