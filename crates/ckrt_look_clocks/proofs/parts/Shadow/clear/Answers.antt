use Rattle.std.proofs.Common.{◌∙◌, length, ap, sym}
use Rattle.ckrt_look_clocks.specs.Parts.{Shadowed}
use Rattle.ckrt_look_clocks.proofs.PartLemmas.{cells_size, none_done}
use Rattle.ckrt_look_clocks.proofs.parts.Shadow.clear.Goals as goal

pub returns : goal.returns
returns c =
    let r = c.self.inside in
    none_done c.give_back.new.by_part.items c.clear.new.self.items (length r.by_part.items) r.words (length c.args.self.now.cells) r.count c.args.self.now.slots.count
    c.give_back.ensures c.self.invariant.parts
    (sym (cells_size r.by_part.items r.cells.items r.words) ∙ ap (λ (v : Shadowed). length v.cells) c.self.view_is)
    (ap (λ (v : Shadowed). v.slots.count) c.self.view_is)
