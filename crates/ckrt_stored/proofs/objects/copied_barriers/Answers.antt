use Rattle.ckrt_barrier.specs.WellFormed.{IsTable}
use Rattle.ckrt_barrier.proofs.Test.{table_beginning}
use Rattle.ckrt_stored.proofs.RowLemmas.{next_entry}
use Rattle.ckrt_stored.proofs.objects.copied_barriers.Goals as goal

pub loop-place-preserved : goal.loop-place-preserved
loop-place-preserved c =
    next_entry IsTable table_beginning c.args.kept.now c.loop-place.barriers c.append.new.self c.loop-place.place c.row.result c.append.result c.row.ensures c.append.ensures c.loop-place.invariant
