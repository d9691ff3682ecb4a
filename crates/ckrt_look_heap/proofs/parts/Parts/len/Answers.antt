use Rattle.std.proofs.Common.{◌∙◌, length, ap, sym}
use Rattle.ckrt_look_heap.specs.Parts.{Parted}
use Rattle.ckrt_look_heap.proofs.PartLemmas.{cells_size}
use Rattle.ckrt_look_heap.proofs.parts.Parts.len.Goals as goal

pub returns-clause-words : goal.returns-clause-words
returns-clause-words c =
    let r = c.self.inside in
    sym (cells_size r.parts.items r.cells.items r.words) ∙ ap (λ (v : Parted). length v.cells) c.self.view_is
