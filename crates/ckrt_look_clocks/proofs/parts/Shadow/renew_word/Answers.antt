use Rattle.std.proofs.Common.{◌≡◌, ◌<◌, ◌∙◌, ◌/◌, List, Some, None, length, get_or, slice_set, ap, arith}
use Rattle.ckrt_look_clocks.specs.declared.shadow.Cell.{Cell}
use Rattle.ckrt_look_clocks.specs.Detection.{given_with}
use Rattle.ckrt_look_clocks.specs.Parts.{Shadowed, Slots, cells_of}
use Rattle.ckrt_look_clocks.proofs.PartLemmas.{cell_written, cells_size, slot_read}
use Rattle.ckrt_look_clocks.proofs.parts.Shadow.renew_word.Goals as goal

pub returns-in-Some-clause-cells : goal.returns-in-Some-clause-cells
returns-in-Some-clause-cells c =
    let r = c.self.inside in let word = c.args.word in let slot = c.in-Some.slot in
    let s : Slots = record { by_part = r.by_part.items; taken = r.taken; count = r.count; is_full = r.is_full } in
    let less : word < r.words = omega (arith, c.requires.inside, cells_size r.by_part.items r.cells.items r.words, ap (λ (v : Shadowed). length v.cells) c.self.view_is) in
    let there : get_or s.by_part (word / 1024) None ≡ Some slot = slot_read s r.cells.items r.words _ word slot c.index-slot.result.now c.self.invariant less c.index-slot.ensures c.in-Some.is in
    ap (λ (l : List Cell). cells_of r.by_part.items l r.words) c.put_in.ensures.cells
    ∙ cell_written s r.cells.items r.words _ word slot (given_with c.args.block.now) c.self.invariant there less
    ∙ ap (λ (v : Shadowed). slice_set v.cells word (given_with c.args.block.now)) c.self.view_is
