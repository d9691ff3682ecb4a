use Rattle.ckrt_mutex.proofs.Kept.{entries_kept}
use Rattle.ckrt_mutex.proofs.entries.make_room.Goals as goal

pub returns-then-is_plain-clause-entries : goal.returns-then-is_plain-clause-entries
returns-then-is_plain-clause-entries c = rw (c.kept_of-left.ensures, c.as_slice-then-is_plain.ensures.value) (entries_kept _ c.requires.entries)
