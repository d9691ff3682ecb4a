use Rattle.ckrt_mutex.proofs.mutexes.Mutexes.are_few_in_use.Goals as goal

pub are_limit_in_use-requires-clause-rising : goal.are_limit_in_use-requires-clause-rising
are_limit_in_use-requires-clause-rising c = rw (c.as_slice.ensures.value, c.rows.ensures) c.known.ensures.table.rising
