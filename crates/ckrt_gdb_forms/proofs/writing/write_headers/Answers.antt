use Rattle.std.proofs.Common.{◌++◌, subst}
use Rattle.std.proofs.lemmas.Result.{on_ok_weaker}
use Rattle.std.specs.Io.KnownBytes.{Appends}
use Rattle.ckrt_gdb_forms.specs.Elf.{elf_header, program_header}
use Rattle.ckrt_gdb_forms.specs.Core.{memory_segment, note_segment}
use Rattle.ckrt_gdb_forms.proofs.AppendLemmas.{appends_both}
use Rattle.ckrt_gdb_forms.proofs.writing.write_headers.Goals as goal

pub returns : goal.returns
returns g c =
    let has = g.W.Write.contents in
    let first = has c.write_elf_header.new.out in
    let second = has c.write_program_header.new.out in
    let end = has c.write_program_header-2.new.out in
    let notes = program_header (note_segment c.args.notes) in
    let memory = program_header (memory_segment c.args.notes c.args.memory) in
    on_ok_weaker c.write_program_header-2.result (λ last.
    appends_both (has c.args.out.now) first end elf_header (notes ++ memory) c.in_ok-write_elf_header.ensures
    (appends_both first second end notes memory
    (subst (λ s. Appends first second (program_header s)) c.note_segment.ensures c.in_ok-write_program_header.ensures)
    (subst (λ s. Appends second end (program_header s)) c.memory_segment.ensures last))) c.write_program_header-2.ensures
