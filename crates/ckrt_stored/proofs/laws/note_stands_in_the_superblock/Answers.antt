use Rattle.ckrt_stored.proofs.NoteLemmas.{note_apart}
use Rattle.ckrt_stored.proofs.laws.note_stands_in_the_superblock.Goals as goal

pub returns : goal.returns
returns c = note_apart
