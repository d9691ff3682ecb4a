use Rattle.std.proofs.Common.{◌≡◌, ◌<◌, ◌∙◌, List, Some, None, true, length, get_or, slice_set, ap, arith, rules}
use Rattle.std.specs.Result.{is_ok}
use Rattle.std.specs.Vec.{vec_len}
use Rattle.ckrt_look_clocks.specs.declared.shadow.Cell.{Cell}
use Rattle.ckrt_look_clocks.specs.Parts.{Shadowed, Slots, cells_of, has_slot}
use Rattle.ckrt_look_clocks.proofs.PartLemmas.{cells_stay, more_cells, no_slot, resized}
use Rattle.ckrt_look_clocks.proofs.parts.Shadow.take.Goals as goal

pub returns-clause-cells : goal.returns-clause-cells
returns-clause-cells c =
    let r = c.self.inside in let part = c.args.part in
    let s : Slots = record { by_part = r.by_part.items; taken = r.taken; count = r.count; is_full = r.is_full } in
    let size : vec_len r.cells ≡ length r.cells.items = search rules in
    let well : is_ok c.resize.result ≡ true = (let h = c.resize.ensures.succeeds (omega (arith, c.self.invariant.room_for, c.if-self.false)) in search rules) in
    let more : c.resize.new.self.items ≡ more_cells r.cells.items =
    resized r.cells.items c.resize.new.self.items r.taken (vec_len r.cells) (is_ok c.resize.result) c.no_accesses.result size c.self.invariant.filled well c.no_accesses.ensures c.resize.ensures.items in
    let inside : part < length s.by_part = omega (arith, ap (λ (v : Shadowed). length v.slots.by_part) c.self.view_is, c.requires.inside) in
    let none : get_or s.by_part part None ≡ None = no_slot (get_or s.by_part part None) (ap (λ (v : Shadowed). has_slot part v.slots) c.self.view_is ∙ c.requires.none) in
    ap (λ (l : List Cell). cells_of (slice_set r.by_part.items part (Some r.taken)) l r.words) more
    ∙ cells_stay s r.cells.items r.words _ part c.self.invariant inside none
    ∙ ap (λ (v : Shadowed). v.cells) c.self.view_is
