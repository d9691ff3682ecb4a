use Rattle.std.proofs.Common.{◌≡◌, ◌+◌, length}
use Rattle.std.specs.List.{flat_map}
use Rattle.ckrt_thread.specs.Contents.{rows_from}
use Rattle.ckrt_gdb_forms.specs.Notes.{other_notes, other_notes_of}
use Rattle.ckrt_gdb_forms.proofs.AppendLemmas.{Completes}
use Rattle.ckrt_gdb_forms.proofs.notes.write_others.Given as goal

abbrev pub invariant-loop-rest : goal.invariant-loop-rest
invariant-loop-rest g l = record {
  written : Completes (g.W.Write.contents l.fn.out) (g.W.Write.contents l.out) (flat_map (other_notes_of l.tables.status) (rows_from l.id l.rest)) (other_notes l.tables.status l.tables.threads);
  count : l.id + length l.rest ≡ 65;
}

abbrev pub decreases-loop-rest : goal.decreases-loop-rest
decreases-loop-rest g l = length l.rest
