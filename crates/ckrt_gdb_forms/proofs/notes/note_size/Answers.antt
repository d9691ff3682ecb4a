use Rattle.ckrt_gdb_forms.proofs.NoteLemmas.{size_of_note}
use Rattle.ckrt_gdb_forms.proofs.notes.note_size.Goals as goal

pub returns-clause-size : goal.returns-clause-size
returns-clause-size c = λ signal id. size_of_note signal id c.args.regs.now c.known.ensures.size
