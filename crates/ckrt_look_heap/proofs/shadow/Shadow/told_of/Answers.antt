use Rattle.std.proofs.Common.{◌∙◌, slice_get, ap, sym}
use Rattle.std.specs.Option.{option_copied}
use Rattle.ckrt_look_heap.specs.Within.{Noted}
use Rattle.ckrt_look_heap.proofs.CellLemmas.{none_there}
use Rattle.ckrt_look_heap.proofs.shadow.Shadow.told_of.Goals as goal

-- the memory doesn't have it
pub returns-in-None : goal.returns-in-None
returns-in-None c =
    let word = c.args.word in
    none_there c.args.self.now.heap.cells word (sym (ap (λ (v : Noted). slice_get v.heap.cells word) c.self.view_is) ∙ sym c.get.ensures ∙ ap option_copied c.in-None.is)
