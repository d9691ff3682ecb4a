use Rattle.ckrt_objects.specs.Appended.{IsTableUpTo}
use Rattle.ckrt_rwlock.specs.RwLock.{IsTable}
use Rattle.ckrt_rwlock.proofs.Appended.{table_beginning}
use Rattle.ckrt_stored.proofs.RowLemmas.{next_entry}
use Rattle.ckrt_stored.proofs.objects.copied_rwlocks.Goals as goal

pub loop-place-preserved : goal.loop-place-preserved
loop-place-preserved c =
    next_entry (IsTableUpTo 64 IsTable) table_beginning c.args.kept.now c.loop-place.rwlocks c.append.new.self c.loop-place.place c.row.result.now c.append.result c.row.ensures c.append.ensures c.loop-place.invariant
