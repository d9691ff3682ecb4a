use Rattle.std.proofs.Common.{◌∙◌, length, ap, sym}
use Rattle.ckrt_look_clocks.specs.Parts.{Shadowed}
use Rattle.ckrt_look_clocks.proofs.PartLemmas.{cells_size}
use Rattle.ckrt_look_clocks.proofs.parts.Shadow.len.Goals as goal

pub returns-clause-words : goal.returns-clause-words
returns-clause-words c =
    let r = c.self.inside in
    sym (cells_size r.by_part.items r.cells.items r.words) ∙ ap (λ (v : Shadowed). length v.cells) c.self.view_is
