use Rattle.std.proofs.Common.{ap}
use Rattle.ckrt_memory.specs.Marks.{Memory}
use Rattle.ckrt_gdb_forms.proofs.AppendLemmas.{on_ok}
use Rattle.ckrt_gdb_forms.proofs.MemoryLemmas.{appends_core}
use Rattle.ckrt_gdb_forms.proofs.writing.write_core.Goals as goal

pub returns : goal.returns
returns g c =
    let has = g.W.Write.contents in
    on_ok c.flush.result (appends_core c.args.machine.now.state c.tables-tables.result.now c.memory-memory.result.now.bytes c.notes_size.result c.memory_size.result
    (has c.args.out.now) (has c.write_headers.new.out) (has c.write_notes.new.out) (has c.write_memory.new.out) (has c.flush.new.self)
    c.tables-tables.ensures.tables (ap (λ (m : Memory). m.bytes) c.memory-memory.ensures) c.notes_size.ensures.size c.memory_size.ensures
    c.in_ok-write_headers.ensures c.in_ok-write_notes.ensures c.in_ok-write_memory.ensures c.flush.ensures.bytes)
