use Rattle.std.proofs.Common.{◌≡◌, ◌<◌, ◌∙◌, ◌+◌, ◌*◌, ◌/◌, ◌%◌, List, Some, None, length, get_or, slice_set, ap, sym, arith}
use Rattle.ckrt_look_clocks.specs.declared.shadow.Cell.{Cell}
use Rattle.ckrt_look_clocks.specs.Detection.{compared_all, found_in, kept, no_accesses}
use Rattle.ckrt_look_clocks.specs.Parts.{Shadowed, Slots, cells_of}
use Rattle.ckrt_look_clocks.proofs.PartLemmas.{cell_read, cell_written, cells_size, slot_read}
use Rattle.ckrt_look_clocks.proofs.parts.Shadow.note.Goals as goal

pub returns-in-Some-clause-cells : goal.returns-in-Some-clause-cells
returns-in-Some-clause-cells c =
    let r = c.self.inside in let word = c.args.word in let slot = c.in-Some.slot in let a = c.args.access.now in
    let s : Slots = record { by_part = r.by_part.items; taken = r.taken; count = r.count; is_full = r.is_full } in
    let less : word < r.words = omega (arith, c.requires.inside, cells_size r.by_part.items r.cells.items r.words, ap (λ (v : Shadowed). length v.cells) c.self.view_is) in
    let there : get_or s.by_part (word / 1024) None ≡ Some slot = slot_read s r.cells.items r.words _ word slot c.index-slot.result.now c.self.invariant less c.index-slot.ensures c.in-Some.is in
    ap (λ (l : List Cell). cells_of r.by_part.items l r.words) c.note_in.ensures.cells
    ∙ cell_written s r.cells.items r.words _ word slot (kept a (get_or r.cells.items (1024 * slot + word % 1024) no_accesses)) c.self.invariant there less
    ∙ ap (λ (x : Cell). slice_set (cells_of r.by_part.items r.cells.items r.words) word (kept a x)) (sym (cell_read s r.cells.items r.words word slot there less))
    ∙ ap (λ (v : Shadowed). slice_set v.cells word (kept a (get_or v.cells word no_accesses))) c.self.view_is

pub returns-in-Some-clause-found : goal.returns-in-Some-clause-found
returns-in-Some-clause-found c =
    let r = c.self.inside in let word = c.args.word in let slot = c.in-Some.slot in let a = c.args.access.now in
    let s : Slots = record { by_part = r.by_part.items; taken = r.taken; count = r.count; is_full = r.is_full } in
    let less : word < r.words = omega (arith, c.requires.inside, cells_size r.by_part.items r.cells.items r.words, ap (λ (v : Shadowed). length v.cells) c.self.view_is) in
    let there : get_or s.by_part (word / 1024) None ≡ Some slot = slot_read s r.cells.items r.words _ word slot c.index-slot.result.now c.self.invariant less c.index-slot.ensures c.in-Some.is in
    c.note_in.ensures.found
    ∙ ap (λ (x : Cell). compared_all c.args.clocks.now a x (found_in c.args.found.now))
    (sym (cell_read s r.cells.items r.words word slot there less) ∙ ap (λ (v : Shadowed). get_or v.cells word no_accesses) c.self.view_is)
