use Rattle.std.proofs.Common.{sym}
use Rattle.ckrt_mutex.specs.Mutex.{is_kept}
use Rattle.ckrt_objects.proofs.Parts.{rising_part}
use Rattle.ckrt_mutex.proofs.Kept.{not_full_kept}
use Rattle.ckrt_mutex.proofs.mutexes.Mutexes.is_full.Goals as goal

pub returns-then-are_too_few : goal.returns-then-are_too_few
returns-then-are_too_few c =
    rw (← c.self.view_is)
    (sym (not_full_kept c.args.address c.args.threads.now c.self.inside.table.items (rw c.as_slice-entries.ensures.value at (c.are_too_few.ensures.few c.if-are_too_few.true))))

pub is_full-requires-clause-rising : goal.is_full-requires-clause-rising
is_full-requires-clause-rising c =
    rw (c.as_slice.ensures.value, c.kept_of.ensures, c.as_slice-entries.ensures.value) (rising_part is_kept c.self.inside.table.items c.self.invariant.rising)
