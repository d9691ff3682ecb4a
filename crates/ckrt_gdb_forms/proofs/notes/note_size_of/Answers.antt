use Rattle.std.proofs.Common.{length, sym, ap, ◌∙◌}
use Rattle.ckrt_gdb_forms.specs.Notes.{notes_at}
use Rattle.ckrt_gdb_forms.proofs.notes.note_size_of.Goals as goal

pub returns-in-Some-clause-size : goal.returns-in-Some-clause-size
returns-in-Some-clause-size c = λ signal id. c.note_size.ensures.size signal id ∙ ap (λ o. length (notes_at signal id o)) (sym c.in-Some.is)
