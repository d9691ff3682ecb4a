use Rattle.ckrt_look_heap.proofs.PartLemmas.{none_done}
use Rattle.ckrt_look_heap.proofs.parts.Parts.new.Goals as goal

pub returns : goal.returns
returns c = none_done c.in_ok-parts.parts.items c.in_ok-cells.cells.items c.args.words c.args.slots c.in_ok-parts.ensures
