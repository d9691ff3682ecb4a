use Rattle.std.proofs.Common.{arith}
use Rattle.ckrt_mutex.specs.Mutex.{is_kept}
use Rattle.ckrt_objects.proofs.Parts.{length_part}
use Rattle.ckrt_mutex.proofs.Kept.{table_kept}
use Rattle.ckrt_mutex.proofs.mutexes.Mutexes.known.Goals as goal

pub returns-clause-table : goal.returns-clause-table
returns-clause-table c = rw (← c.self.view_is) (table_kept _ c.self.invariant)

pub returns-clause-size : goal.returns-clause-size
returns-clause-size c =
    rw (← c.self.view_is)
    (let f = rw c.as_slice.ensures.value at c.as_slice.ensures.fits in let l = length_part is_kept c.self.inside.table.items in omega arith)
