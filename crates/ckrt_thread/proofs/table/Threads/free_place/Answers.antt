use Rattle.ckrt_thread.proofs.Known.{free_places, free_joiners}
use Rattle.ckrt_thread.proofs.table.Threads.free_place.Goals as goal

pub returns-clause-free : goal.returns-clause-free
returns-clause-free c = rw (c.free_slot.ensures, c.as_slice.ensures.slots, ← c.self.view_is) (free_places _ c.self.invariant)

pub returns-clause-unjoined : goal.returns-clause-unjoined
returns-clause-unjoined c = rw (c.free_slot.ensures, c.as_slice.ensures.slots, ← c.self.view_is) (free_joiners _ c.self.invariant)
