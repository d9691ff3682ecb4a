use Rattle.std.proofs.Common.{◌≡◌, ◌≤◌, ◌+◌, ◌*◌, length}
use Rattle.std.specs.List.{flat_map}
use Rattle.ckrt_thread.specs.Contents.{rows_from}
use Rattle.ckrt_gdb_forms.specs.Notes.{other_notes, other_notes_of}
use Rattle.ckrt_gdb_forms.proofs.notes.others_size.Given as goal

abbrev pub invariant-loop-rest : goal.invariant-loop-rest
invariant-loop-rest l = record {
  sum : l.size + length (flat_map (other_notes_of l.tables.status) (rows_from l.id l.rest)) ≡ length (other_notes l.tables.status l.tables.threads);
  count : l.id + length l.rest ≡ 65;
  within : l.size ≤ 224 * l.id;
}

abbrev pub decreases-loop-rest : goal.decreases-loop-rest
decreases-loop-rest l = length l.rest
