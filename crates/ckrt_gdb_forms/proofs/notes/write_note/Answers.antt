use Rattle.std.proofs.lemmas.Result.{on_ok_weaker}
use Rattle.ckrt_gdb_forms.proofs.NoteLemmas.{appends_note}
use Rattle.ckrt_gdb_forms.proofs.notes.write_note.Goals as goal

pub returns : goal.returns
returns g c =
    let has = g.W.Write.contents in
    on_ok_weaker c.write_status.result (λ last.
    appends_note c.args.signal c.args.id c.args.regs.now (has c.args.out.now) (has c.write_note_head.new.out) (has c.write_status.new.out) c.known.ensures.size c.in_ok-write_note_head.ensures last) c.write_status.ensures
