use Rattle.ckrt_objects.specs.Appended.{IsTableUpTo}
use Rattle.ckrt_mutex.specs.Mutex.{IsTable}
use Rattle.ckrt_mutex.proofs.Appended.{table_beginning}
use Rattle.ckrt_stored.proofs.RowLemmas.{next_entry}
use Rattle.ckrt_stored.proofs.objects.copied_mutexes.Goals as goal

pub loop-place-preserved : goal.loop-place-preserved
loop-place-preserved c =
    next_entry (IsTableUpTo 256 IsTable) table_beginning c.args.kept.now c.loop-place.mutexes c.append.new.self c.loop-place.place c.row.result c.append.result c.row.ensures c.append.ensures c.loop-place.invariant
