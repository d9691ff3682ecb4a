use Rattle.ckrt_mutex.proofs.Kept.{stored_kept, entries_stored}
use Rattle.ckrt_mutex.proofs.entries.put_entry.Goals as goal

pub returns-clause-entries : goal.returns-clause-entries
returns-clause-entries c = rw c.store_near.ensures.entries (entries_stored c.args.address c.args.mutex _ c.requires.proper c.make_room.ensures.entries)

pub returns-clause-kept : goal.returns-clause-kept
returns-clause-kept c = rw (c.store_near.ensures.entries, ← c.make_room.ensures.kept) (stored_kept c.args.address c.args.mutex _ c.make_room.ensures.entries.rising)
